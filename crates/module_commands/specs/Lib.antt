-- What the program `module` answers to its words.
pub mod Explanations
pub mod Forgettings
pub mod Commands
pub mod Answers
pub mod Scripts
