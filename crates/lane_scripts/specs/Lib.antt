pub mod LaneScripts
pub mod NextLines
