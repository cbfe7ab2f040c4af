pub mod Steps
pub mod Equations
pub mod Texts
pub mod Pieces
pub mod Linear
pub mod Forms
pub mod Sums
pub mod Changes
