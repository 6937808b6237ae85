pub mod Sequents
pub mod Unification
pub mod Soundness
pub mod Claims
pub mod Samples
