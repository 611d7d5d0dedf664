pub mod Finite
pub mod Floors
