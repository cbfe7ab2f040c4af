pub mod Limits
pub mod FirstOf
