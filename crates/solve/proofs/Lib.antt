pub mod Columns
pub mod Solves
pub mod Sound
