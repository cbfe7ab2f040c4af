pub mod BySteps
pub mod Steps
