pub mod Pasting
pub mod Decimal
pub mod Turns
pub mod Length
pub mod Examples
