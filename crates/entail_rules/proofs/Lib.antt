pub mod Numbers
pub mod RuleVerdicts
pub mod VerdictLaws
