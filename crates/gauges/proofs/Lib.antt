pub mod GainedTexts
pub mod GreatestLaws
pub mod KeptLaws
pub mod WorstLaws
pub mod ToldGauges
