pub mod Row
pub mod Laid
pub mod Kernels
pub mod Steps
