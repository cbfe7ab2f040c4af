pub mod Weakest
pub mod Straight
pub mod Rows
pub mod Written
