pub mod Rounded
pub mod Operations
pub mod Bounds
