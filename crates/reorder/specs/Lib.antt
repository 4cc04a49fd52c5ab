pub mod Reorder
pub mod Kernels
pub mod Steps
