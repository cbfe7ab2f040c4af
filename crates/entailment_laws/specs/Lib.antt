pub mod Judgements
pub mod Steps
