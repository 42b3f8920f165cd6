pub mod Bytes
pub mod KeyLengths
pub mod Names
pub mod Numbers
