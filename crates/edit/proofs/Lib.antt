pub mod Edited
pub mod Tested
