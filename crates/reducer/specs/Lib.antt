pub mod Reductions
pub mod Finding
pub mod Descents
