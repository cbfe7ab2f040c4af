pub mod Reading
pub mod Spelling
pub mod Giving
pub mod Leaves
pub mod Faults
