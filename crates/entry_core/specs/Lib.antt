pub mod Entries
pub mod Presses
pub mod Runs
