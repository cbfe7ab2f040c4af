pub mod FileTests
pub mod Scopes
pub mod WellFormedTheories
pub mod WorkedFiles
pub mod Places
