pub mod SetupLaws
pub mod LongestLaws
pub mod SizeLaws
pub mod EnableLaws
pub mod PairLaws
pub mod PassLaws
pub mod RouteLaws
