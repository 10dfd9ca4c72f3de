pub mod PairRows
pub mod PairReport
pub mod inside
