pub mod KeptLaws
pub mod NearLaws
pub mod IndexLaws
pub mod DistanceLaws
pub mod TwoLeastLaws
pub mod NearestLaws
