pub mod Differing
pub mod ByteLists
pub mod Words
