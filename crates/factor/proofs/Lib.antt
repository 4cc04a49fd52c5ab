pub mod Runs
pub mod Running
pub mod Done
pub mod Begins
pub mod LogicalTables
pub mod Tested
