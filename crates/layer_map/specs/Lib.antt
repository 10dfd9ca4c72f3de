-- the documents that name them
pub mod Values
pub mod DocumentSizes
pub mod DocumentPaths
pub mod MapFaults
pub mod ItemChecks
pub mod LayerChecks
pub mod CutChecks
pub mod TerminalChecks
pub mod MapChecks
pub mod Documents
pub mod MapPlaces
pub mod MapCauses
pub mod FirstPlaces
-- an example
pub mod Sample
-- what a map is, which stands below
pub use Rattle.map_model.specs.LayerMap
pub use Rattle.map_model.specs.MapView
-- what only this crate's proofs and private contracts cite
pub mod inside
