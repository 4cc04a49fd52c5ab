pub mod Accepted
pub mod Lengths
pub mod Analysed
