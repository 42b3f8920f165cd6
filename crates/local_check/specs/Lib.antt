pub mod Checks
pub mod FewWords
pub mod StandardWork
