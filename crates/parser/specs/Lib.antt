pub mod Format
pub mod CodeParsed
