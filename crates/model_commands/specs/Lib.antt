pub mod ConditionFormulas
pub mod Commands
pub mod CommandParts
pub mod Theories
pub mod SortTests
pub mod Sorting
pub mod Scopes
pub mod Each
