pub mod BadPlaces
pub mod Called
pub mod HasRows
pub mod RowsOfNames
pub mod Sound
pub mod Walks
pub mod WellFormed
