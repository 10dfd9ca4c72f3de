pub mod Heads
pub mod TableLaws
pub mod NameLaws
pub mod RecordCheckLaws
pub mod SplitLaws
pub mod ReadingLaws
pub mod TextLaws
pub mod RealLaws
