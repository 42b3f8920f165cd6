pub mod ListLemmas
pub mod NumberLemmas
pub mod SeatLemmas
pub mod StepLemmas
pub mod SeatingLemmas
pub mod CallLemmas
pub mod JoiningLemmas
