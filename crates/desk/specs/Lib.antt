pub mod Lists
pub mod Desk
