-- A value that meets what the functions require.
pub mod Witness
