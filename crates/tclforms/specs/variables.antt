-- The definitions that the contracts of this crate are written in: what its types stand for in the rules of tclrules.
pub mod Contents
pub mod Views
pub mod Locations
