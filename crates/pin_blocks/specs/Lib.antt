pub mod BlockWork
pub mod Blocks
pub mod Faults
pub mod FillWords
pub mod PinRules
pub mod TakenBlocks
