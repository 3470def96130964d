pub mod command
