pub mod Pieces
pub mod Entries
