pub mod Structures
pub mod Steps
pub mod ArrayExample
pub mod Routes
pub mod OneRoute
pub mod ReferenceChains
pub mod Tops
pub mod Placements
pub mod PlaceFaults
pub mod Causes
pub mod Motions
pub mod Placed
-- what only this crate's proofs and private contracts cite
pub mod inside
