pub mod Variables
pub mod Shifts
pub mod Parts
