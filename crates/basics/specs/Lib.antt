pub mod Bits
pub mod Build
pub mod Lists
pub mod Sums
pub mod Walk
