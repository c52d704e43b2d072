pub mod Damage
pub mod Drawn
pub mod Draws
pub mod Lawful
pub mod Longest
pub mod Misread
pub mod ReadBack
pub mod Same
