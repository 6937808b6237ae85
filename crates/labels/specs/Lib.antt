pub mod Delays
pub mod Routes
pub mod CappedSums
pub mod RouteLaw
pub mod RouteTable
pub mod Counts
