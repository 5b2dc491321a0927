pub mod CodeFields
pub mod CodeSelection
pub mod CodeRoute
