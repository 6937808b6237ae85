pub mod Findings
pub mod Labels
