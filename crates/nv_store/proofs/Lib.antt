pub mod CellLemmas
pub mod PlaceLemmas
pub mod ReplaceLemmas
pub mod TornLemmas
