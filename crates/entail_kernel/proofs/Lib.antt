pub mod Known
pub mod Refusing
pub mod Rows
pub mod Sound
