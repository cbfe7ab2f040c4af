pub mod Contexts
pub mod Clashes
pub mod Cuts
