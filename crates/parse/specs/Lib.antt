pub mod Answer
pub mod Faults
pub mod Groups
pub mod Parse
pub mod Steps
