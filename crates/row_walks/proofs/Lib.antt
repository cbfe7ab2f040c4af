pub mod Refusals
pub mod OrElse
