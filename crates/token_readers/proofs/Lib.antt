pub mod TerminalTests
pub mod Sound
pub mod Only
pub mod Whole
pub mod Lists
pub mod Values
