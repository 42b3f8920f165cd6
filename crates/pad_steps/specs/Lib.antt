pub mod Accounts
pub mod Formed
pub mod Lines
