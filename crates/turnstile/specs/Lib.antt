pub mod Entries
pub mod Machines
pub mod Numbers
pub mod Rules
pub mod Turns
pub mod RunningSums
pub mod Joinings
