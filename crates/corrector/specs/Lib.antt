pub mod Correct
pub mod Lanes
pub mod Places
