pub mod Faced
