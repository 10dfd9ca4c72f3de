pub mod ReadRegions
pub mod FileLaws
