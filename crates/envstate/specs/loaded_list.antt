pub mod LoadedTexts
pub mod ElementTexts
pub mod Loaded
pub mod LoadedEntries
pub mod LoadedLaws
pub mod NeededChanges
pub mod Shortened
