pub mod Queries
pub mod Lists
pub mod Commands
pub mod Theories
pub mod SortedTheories
