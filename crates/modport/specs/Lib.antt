pub mod Lines
pub mod LineViews
pub mod Statuses
