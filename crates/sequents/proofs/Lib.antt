pub mod Playing
pub mod Beginning
pub mod Moves
pub mod Passing
pub mod Endings
pub mod Choosing
pub mod Unifying
pub mod Samples
