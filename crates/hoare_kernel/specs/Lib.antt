pub mod Called
pub mod Names
pub mod Refusals
pub mod Rows
pub mod Walks
