pub mod CheckValues
