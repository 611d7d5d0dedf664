-- Definitions of the comparing pass.
pub mod Comparing
