pub mod Bodies
pub mod Written
pub mod WellFormed
pub mod SameLibrary
