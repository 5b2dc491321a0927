pub mod CodeFold
