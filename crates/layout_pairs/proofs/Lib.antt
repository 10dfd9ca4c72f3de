pub mod TouchingLaws
pub mod AreaTallies
pub mod MetalPairLaws
pub mod TableLaws
