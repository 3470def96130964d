-- What the private functions of `src/` state about how they find a match. No public clause needs any of it.
pub mod Items
pub mod View
pub mod Tails
pub mod States
pub mod Windows
pub mod Uniform
pub mod Positions
pub mod Steps
