pub mod TreeNodes
pub mod Columns
pub mod CoverTrees
pub mod TreeParts
pub mod TreeRows
