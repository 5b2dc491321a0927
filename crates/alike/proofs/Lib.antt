pub mod FirstCellLaws
pub mod AlikeLaws
pub mod BankLaws
pub mod AlikeExamples
