pub mod Variables
pub mod VariableTests
pub mod Terms
pub mod TermSorts
pub mod Stores
pub mod Conditions
pub mod Computing
pub mod TermLimits
