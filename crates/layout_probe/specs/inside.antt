pub mod NumberedNearest
