pub mod Solve
pub mod Kernels
