pub mod Steps
pub mod Parts
pub mod Commands
pub mod Numbers
pub mod Patterns
pub mod Lines
pub mod Tests
