pub mod Requests
pub mod RunWords
