pub mod Header
pub mod Told
pub mod Files
pub mod Only
pub mod Cut
pub mod Examples
