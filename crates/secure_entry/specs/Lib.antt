pub mod PartBuffers
