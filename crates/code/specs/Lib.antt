pub mod Code
pub mod Lanes
pub mod Misread
pub mod Theorems
