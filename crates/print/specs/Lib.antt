pub mod Digits
pub mod Output
pub mod CodePrinted
