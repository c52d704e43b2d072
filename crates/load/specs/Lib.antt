pub mod Loaded
pub mod Pieces
