pub mod Sound
pub mod Commands
pub mod Walked
pub mod Fitting
pub mod Conditions
pub mod Exact
pub mod Numbered
