pub mod Steps
pub mod Costs
pub mod Chains
pub mod Claims
