pub mod RuleNames
pub mod FileFaults
pub mod FileLimits
pub mod Sizes
