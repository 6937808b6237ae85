pub mod Starting
pub mod Settling
pub mod Quieting
pub mod Readiness
