pub mod SameTruth
mod PlainTerms
mod SortedParts
mod StoreLaws
mod TermLimitLaws
