pub mod Refusing
pub mod Numbering
