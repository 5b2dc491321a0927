pub mod TextLaws
pub mod StepLaws
