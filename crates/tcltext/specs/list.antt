pub mod ListGrammar
pub mod ListFaults
pub mod ListReading
pub mod Ends
pub mod Lists
