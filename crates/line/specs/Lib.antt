pub mod Line
pub mod CodeLinePrinted
