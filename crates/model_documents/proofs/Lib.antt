pub mod SortedRoots
pub mod Counting
pub mod UniqueNumbers
pub mod WorkedDocuments
