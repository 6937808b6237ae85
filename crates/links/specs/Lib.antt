pub mod Links
pub mod Formulas
pub mod Above
pub mod Facts
pub mod Claims
