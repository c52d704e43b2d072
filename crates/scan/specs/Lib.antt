pub mod Received
pub mod Scan
