pub mod Modes
pub mod Macs
