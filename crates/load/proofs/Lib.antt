pub mod DrawLaws
pub mod RowsLaws
pub mod RowLaws
pub mod CallLaws
pub mod Passes
pub mod Computed
pub mod Witness
