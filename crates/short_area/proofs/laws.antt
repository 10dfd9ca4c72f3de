pub mod LabelLaws
