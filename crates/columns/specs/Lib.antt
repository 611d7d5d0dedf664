pub mod Columns
pub mod Sides
