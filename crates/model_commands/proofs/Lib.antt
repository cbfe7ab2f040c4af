pub mod StoreLaws
pub mod Sorting
pub mod WorkedCommands
