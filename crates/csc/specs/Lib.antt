pub mod Csc
