pub mod Arms
pub mod Gathering
pub mod Rows
