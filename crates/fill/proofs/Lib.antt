pub mod RowRule
pub mod ListLaws
pub mod Prune
