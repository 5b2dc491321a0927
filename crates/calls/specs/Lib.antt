pub mod Calls
pub mod Spans
pub mod Answers
pub mod State
