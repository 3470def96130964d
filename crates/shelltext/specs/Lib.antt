pub mod Shells
pub mod Reading
pub mod Printing
pub mod Sequences
