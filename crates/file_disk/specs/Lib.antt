pub mod Files
pub mod MemoryFiles
pub mod FileDisks
