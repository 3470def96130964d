pub mod Results
pub mod Whole
pub mod RunLemmas
pub mod BraceLemmas
pub mod BraceClose
pub mod BackslashLemmas
pub mod BracedTextLemmas
mod Rows
pub mod NumberLemmas
pub mod Examples
pub mod WholeNumbers
pub mod Fractions
