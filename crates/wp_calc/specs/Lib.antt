pub mod Faults
pub mod NewNames
pub mod PutTerm
pub mod Rows
