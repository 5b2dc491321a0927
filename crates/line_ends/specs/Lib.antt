pub mod LineEnd
