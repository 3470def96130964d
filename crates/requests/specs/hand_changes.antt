pub mod HandChanges
pub mod Events
pub mod Laws
pub mod Exactness
pub mod Examples
