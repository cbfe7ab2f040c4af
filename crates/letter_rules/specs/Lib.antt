pub mod EliminateTests
pub mod Numbered
