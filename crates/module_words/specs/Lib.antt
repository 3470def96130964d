pub mod subcommands
pub mod function
pub mod modulepath
pub mod protocol
