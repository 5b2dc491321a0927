pub mod Text
pub mod CodeStepped
