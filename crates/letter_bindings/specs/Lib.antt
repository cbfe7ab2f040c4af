pub mod Known
pub mod Matching
pub mod Shifts
pub mod Settled
pub mod Lines
pub mod Choices
pub mod Bodies
