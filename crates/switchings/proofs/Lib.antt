pub mod Occurrences
pub mod Listed
pub mod Drawn
pub mod Samples
pub mod Crossing
