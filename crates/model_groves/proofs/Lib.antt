pub mod Decided
pub mod Groves
pub mod InContext
pub mod NextPicks
