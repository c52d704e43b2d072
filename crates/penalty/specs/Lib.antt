pub mod Lines
pub mod Penalty
pub mod Promise
