pub mod AlongLaws
pub mod TileLaws
pub mod DoublingLaws
