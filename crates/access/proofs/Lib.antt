pub mod ChunkLaws
pub mod FetchLaws
pub mod ReadLaws
