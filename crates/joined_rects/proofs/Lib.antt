pub mod laws
mod HalfLaws
mod JoinLaws
