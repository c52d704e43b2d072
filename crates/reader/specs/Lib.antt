pub mod Answers
pub mod Reader
pub mod Refusals
pub mod Steps
pub mod Theorems
