pub mod Renumbered
pub mod Measured
pub mod Numbers
pub mod Good
