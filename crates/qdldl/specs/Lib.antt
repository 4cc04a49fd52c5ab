pub mod Calls
pub mod Analysing
pub mod Factoring
pub mod Solving
pub mod Figures
