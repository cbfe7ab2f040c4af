pub mod Trees
pub mod Finding
pub mod UsedNumbers
pub mod SameTrees
pub mod Moving
pub mod LettingGo
