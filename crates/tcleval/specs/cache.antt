-- The definitions that the contracts of this crate are written in: what is cached, and when. Own.
pub mod Trees
pub mod Texts
pub mod Kept
pub mod Views
