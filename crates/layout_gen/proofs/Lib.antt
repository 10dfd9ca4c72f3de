pub mod GeneratedLaws
