pub mod ModulePaths
pub mod Faults
pub mod Words
pub mod Edits
pub mod Laws
