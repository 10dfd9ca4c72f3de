-- what contracts of other crates cite
pub mod Severing
pub mod Changes
