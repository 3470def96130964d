-- What a script evaluates to. To be read against Tcl(n), expr(n) and the pages of the commands: Rules, Words,
-- Expressions, Forms, Variables, Messages, Names. What an evaluator promises: Meaning, Places, Promise, Hosts.
pub mod Oracle
pub mod Derivation
pub mod Playing
pub mod Messages
pub mod Variables
pub mod Forms
pub mod Names
pub mod Plans
pub mod Words
pub mod Expressions
pub mod Rules
pub mod Faults
pub mod Hosts
pub mod Recording
pub mod Meaning
pub mod Places
pub mod Promise
pub mod Simulates
pub mod Shown
