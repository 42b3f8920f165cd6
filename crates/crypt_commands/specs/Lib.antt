pub mod Crypts
pub mod Faults
pub mod Jobs
