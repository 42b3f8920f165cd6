pub mod Walks
pub mod ModeLemmas
pub mod UndoneLemmas
pub mod MacLemmas
pub mod CodeLemmas
