pub mod Reading
pub mod Descent
pub mod Keeping
pub mod Deciding
pub mod Grounding
