pub mod Made
pub mod Generated
