pub mod Numbers
pub mod MemoryResults
