pub mod StoredLaws
pub mod Witness
