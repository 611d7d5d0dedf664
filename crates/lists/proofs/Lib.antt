pub mod Handed
pub mod Witness
