-- Lines in aligned columns (own).
pub mod Columns
pub mod Views
pub mod Laws
