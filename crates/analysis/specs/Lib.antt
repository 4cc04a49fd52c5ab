pub mod Analysis
pub mod Steps
pub mod Lent
