pub mod Algebra
pub mod Byte
pub mod Laws
