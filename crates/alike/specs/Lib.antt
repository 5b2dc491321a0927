pub mod Alike
pub mod CodeMegabyte
