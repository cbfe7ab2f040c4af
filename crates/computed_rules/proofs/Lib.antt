mod Decided
mod Written
pub mod ChangedTerms
mod DistinctVerdicts
mod ConcatVerdicts
mod EqSubstVerdicts
mod LinearLaws
mod LinearSteps
mod FormLaws
mod LinearWritten
mod SumLaws
