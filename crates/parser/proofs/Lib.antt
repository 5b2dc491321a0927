pub mod PaddedLaws
pub mod ParsedLaws
pub mod DigitLaws
pub mod ByteLaws
pub mod PlainLaws
pub mod FieldLaws
pub mod FormatLaws
