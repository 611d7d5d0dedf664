pub mod Factoring
pub mod SystemLaws
pub mod TurnLaws
pub mod ColumnLaws
pub mod FindLaws
pub mod FormLaws
pub mod EndLaws
