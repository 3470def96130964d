-- The definitions of `avail`, `list` and `is-avail` (module(1)).
pub mod Faults
pub mod Options
pub mod Texts
pub mod Finding
pub mod Chosen
pub mod Reports
pub mod Available
pub mod Hints
pub mod Places
pub mod Along
-- for this crate's own contracts alone
pub mod Views
