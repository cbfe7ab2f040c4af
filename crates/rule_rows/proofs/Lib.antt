pub mod FoundRules
