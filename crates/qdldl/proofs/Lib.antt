pub mod Figures
pub mod Once
pub mod Lists
pub mod Settled
