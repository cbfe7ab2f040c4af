pub mod Words
pub mod Arguments
pub mod Texts
pub mod Output
