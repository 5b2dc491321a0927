pub mod GatherLaws
pub mod LaneLaws
