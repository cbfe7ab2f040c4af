pub mod MarkLemmas
pub mod ConditionSizes
pub mod LineLemmas
pub mod WrittenTexts
