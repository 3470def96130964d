-- What a terminal shows of texts (own).
pub mod Shown
pub mod Tables
pub mod CellViews
pub mod Bytes
