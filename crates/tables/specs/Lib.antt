pub mod Largest
pub mod Tables
pub mod Theorems
pub mod Version
