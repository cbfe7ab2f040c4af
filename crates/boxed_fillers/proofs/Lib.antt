pub mod Alone
pub mod InOrder
pub mod Places
pub mod Lent
