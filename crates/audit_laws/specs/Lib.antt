pub mod determinism
pub mod site
pub mod returns
