pub mod BlockLemmas
pub mod FillLemmas
pub mod Packing
pub mod PutNibbles
