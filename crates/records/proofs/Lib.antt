mod Bytes
mod Fronts
pub mod Unique
pub mod Walks
