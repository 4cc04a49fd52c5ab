pub mod Edit
pub mod Kernels
