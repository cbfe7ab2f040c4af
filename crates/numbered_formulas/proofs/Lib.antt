pub mod FirstFound
pub mod Under
pub mod OneHead
pub mod KeptVariables
