pub mod Formed
pub mod Gather
pub mod Passes
pub mod Phases
pub mod Starts
pub mod Steps
pub mod Turns
pub mod Upper
