pub mod LibraryReaders
pub mod Quarters
