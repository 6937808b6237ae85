pub mod Owning
pub mod Soundness
pub mod Lawfulness
pub mod Pinning
pub mod TicketsOwn
pub mod ReasonsDecided
pub mod RowsMade
pub mod Outcomes
