pub mod Views
pub mod Verdicts
