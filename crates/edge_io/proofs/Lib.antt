pub mod ByteLaws
pub mod FailureCountLaws
pub mod HeldLaws
