pub mod LentBytes
pub mod Links
pub mod Meaning
pub mod Spellings
pub mod Steps
