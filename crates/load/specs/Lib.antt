pub mod Load
pub mod Stores
