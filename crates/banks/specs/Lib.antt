pub mod Setup
pub mod Judge
pub mod Map
