pub mod Markings
pub mod Turns
