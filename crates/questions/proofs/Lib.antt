pub mod MapReading
pub mod Asking
pub mod laws
