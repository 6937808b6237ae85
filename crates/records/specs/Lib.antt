pub mod Faults
pub mod Format
pub mod Fronts
pub mod Kinds
pub mod Laws
pub mod Reading
