-- Definitions of the structure pass.
pub mod Places
pub mod Pass
