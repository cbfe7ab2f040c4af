pub mod Citing
pub mod Known
pub mod Steps
