pub mod AcrossCuts
pub mod Reducing
pub mod Descending
pub mod Cuts
