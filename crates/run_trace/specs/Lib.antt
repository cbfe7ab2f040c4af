pub mod Changes
pub mod Listeners
pub mod Tallies
