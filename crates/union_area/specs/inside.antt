pub mod PartCases
