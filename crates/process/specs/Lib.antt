pub mod AbsolutePaths
pub mod Faults
pub mod Inputs
pub mod NotUtf8
