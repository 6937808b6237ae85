pub mod Adding
mod Growth
pub mod StepValues
mod Taking
