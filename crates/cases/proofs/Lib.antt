pub mod Limits
pub mod Boundary
pub mod Vectors
pub mod Witness
pub mod Load
