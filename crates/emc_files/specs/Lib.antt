pub mod Files
pub mod Sink
pub mod InMemory
pub mod MemFiles
