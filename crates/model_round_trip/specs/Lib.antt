pub mod Writable
pub mod Literals
pub mod ReadBack
