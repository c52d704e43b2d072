pub mod Copies
pub mod Drawn
pub mod Maps
pub mod Reading
pub mod Whole
