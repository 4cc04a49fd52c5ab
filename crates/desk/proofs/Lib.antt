pub mod Any
pub mod Both
pub mod First
pub mod Over
pub mod ReadBack
pub mod Sums
pub mod Tally
pub mod Upto
