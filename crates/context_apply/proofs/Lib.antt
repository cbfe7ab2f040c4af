pub mod Joined
pub mod Filled
pub mod Plain
pub mod Emptied
pub mod PutBack
pub mod Repeats
pub mod Had
