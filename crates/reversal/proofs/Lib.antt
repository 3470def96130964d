mod ModuleEntries
pub mod RecordKinds
pub mod Frames
pub mod Uses
mod Loads
mod Alike
mod OneVariable
mod OneStack
mod LiveModules
mod Steps
mod WholeRuns
mod Requests
mod Losses
pub mod Histories
pub mod Lost
pub mod Parts
