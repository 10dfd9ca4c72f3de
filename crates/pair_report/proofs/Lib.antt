pub mod Reported
pub mod WholeText
