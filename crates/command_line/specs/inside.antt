pub mod Arguments
pub mod Command
pub mod Readings
pub mod WordsRefusals
