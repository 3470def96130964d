pub mod Paths
pub mod Counters
pub mod PathTexts
pub mod Tables
pub mod PathVariables
pub mod PathRuns
pub mod PathEdits
pub mod PathOrder
