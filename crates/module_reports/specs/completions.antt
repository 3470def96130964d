-- Names for completion (module(1)).
pub mod Texts
pub mod Kinds
pub mod Places
pub mod Lines
pub mod Begun
pub mod Views
pub mod Names
pub mod Offered
