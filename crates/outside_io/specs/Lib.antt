pub mod Causes
pub mod Pieces
pub mod Shelves
pub mod Tapes
