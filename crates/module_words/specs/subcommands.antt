pub mod Subcommands
pub mod Options
pub mod Views
pub mod Nearness
pub mod Meanings
pub mod Faults
pub mod Elsewhere
pub mod OtherOptions
