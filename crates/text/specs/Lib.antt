pub mod Page
pub mod Paste
pub mod Text
