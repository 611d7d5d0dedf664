pub mod FactorFile
pub mod Example
pub mod Judging
