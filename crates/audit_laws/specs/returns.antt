pub mod Files
pub mod Unloads
pub mod Loads
pub mod Laws
pub mod Examples
