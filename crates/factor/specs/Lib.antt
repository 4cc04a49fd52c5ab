pub mod Factor
pub mod Steps
