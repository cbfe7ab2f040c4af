pub mod Commands
pub mod Binding
pub mod EliminateVerdicts
pub mod OnWritten
