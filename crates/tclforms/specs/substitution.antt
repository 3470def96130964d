-- The definitions that the contracts of this crate are written in: what a stop means in the rules of evaluation.
pub mod Stops
pub mod Weights
pub mod Machine
pub mod BorrowedOperands
