-- what contracts of other crates cite
pub mod NetNumbers
