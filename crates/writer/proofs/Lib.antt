pub mod Answers
pub mod Drawn
pub mod Faults
pub mod Fit
pub mod Only
pub mod Refusals
pub mod Steps
