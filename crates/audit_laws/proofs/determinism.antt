mod Seen
pub mod Noted
pub mod Rests
pub mod ReadVariables
pub mod Settling
mod Asked
pub mod UndoTested
