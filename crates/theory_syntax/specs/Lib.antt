pub mod Commands
pub mod Judgements
pub mod Theories
pub mod SameCommands
