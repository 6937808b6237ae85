pub mod Lists
pub mod Selections
pub mod Walks
pub mod Rounds
pub mod Graphs
pub mod Classes
pub mod Theorems
pub mod Samples
