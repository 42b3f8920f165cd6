pub mod LineLemmas
pub mod LaneLemmas
pub mod ReadLemmas
