pub mod Tokens
pub mod Lexemes
pub mod Versions
pub mod Nesting
pub mod FaultTokens
