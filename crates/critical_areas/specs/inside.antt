pub mod Work
pub mod IslandsApart
pub mod Indexes
pub mod Lengthening
pub mod CountedRows
