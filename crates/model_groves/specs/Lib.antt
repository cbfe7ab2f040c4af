pub mod Groves
pub mod Sizes
pub mod Picks
