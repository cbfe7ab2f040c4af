pub mod Rows
pub mod Bindings
pub mod Evaluating
pub mod Judged
pub mod Watched
pub mod Tables
pub mod Walked
