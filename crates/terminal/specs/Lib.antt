pub mod text
pub mod columns
