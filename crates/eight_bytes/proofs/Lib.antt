pub mod ByteLaws
pub mod AcrossLaws
