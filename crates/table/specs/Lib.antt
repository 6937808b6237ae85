pub mod Refusing
pub mod Answers
pub mod Duality
pub mod ByLink
