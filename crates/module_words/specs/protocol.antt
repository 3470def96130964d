pub mod Askers
pub mod Places
pub mod Paging
pub mod ScriptWords
pub mod After
pub mod Kinds
