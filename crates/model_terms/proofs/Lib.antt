pub mod StoreLaws
pub mod Computing
pub mod WorkedConditions
