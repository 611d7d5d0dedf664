pub mod Witness
pub mod Chains
