pub mod CentreLaws
pub mod BoundLaws
pub mod ClusterBoxLaws
