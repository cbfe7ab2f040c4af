pub mod Lists
pub mod Entries
pub mod Growing
pub mod Roots
pub mod Codes
pub mod Marks
