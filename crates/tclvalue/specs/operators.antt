-- The definitions that the contracts of this crate are written in: the operators of expr(n), and why there is no value.
pub mod Faults
pub mod Messages
pub mod Elements
pub mod Numbers
pub mod Operators
pub mod Values
-- for private contracts of this crate alone
pub mod Views
