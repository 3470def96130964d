pub mod Apart
pub mod Colons
pub mod Frames
pub mod Stores
pub mod Names
pub mod Plain
pub mod Places
pub mod Decimals
