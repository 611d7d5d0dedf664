pub mod Keeps
pub mod ColumnLaws
pub mod ListLaws
pub mod WindowLaws
pub mod SideLaws
pub mod Stored
pub mod Witness
