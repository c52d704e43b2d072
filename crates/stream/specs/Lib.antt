pub mod BitWriter
pub mod Put
pub mod Stream
