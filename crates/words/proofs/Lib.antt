pub mod Bits
pub mod Distance
pub mod Words
