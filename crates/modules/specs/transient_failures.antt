-- Which causes say nothing of what is asked for.
pub mod Causes
