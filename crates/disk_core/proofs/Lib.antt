pub mod GivenBytes
pub mod SpliceLemmas
pub mod ToldLemmas
pub mod CallLemmas
pub mod CrashImages
pub mod MemorySteps
pub mod FlakySteps
