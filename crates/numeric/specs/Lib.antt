pub mod Stores
pub mod Rows
pub mod StoreLaws
pub mod LoadLaws
pub mod RowLaws
pub mod KeepLaws
pub mod PassLaws
pub mod Right
