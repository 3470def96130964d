pub mod cache
pub mod OpenScripts
pub mod OnlyGrows
pub mod Continues
pub mod LoopBodies
pub mod Files
