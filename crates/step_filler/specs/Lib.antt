pub mod Weights
pub mod Offered
pub mod Given
pub mod Drafts
pub mod Layers
pub mod Roots
pub mod Turns
pub mod Pens
