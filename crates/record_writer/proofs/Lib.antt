pub mod Backs
pub mod Sizes
