pub mod Switchings
pub mod Rows
pub mod Edges
pub mod Claims
pub mod Samples
