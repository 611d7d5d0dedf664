-- Definitions and laws of the marks, and of one place of one side.
pub mod Marks
pub mod MarkLaws
pub mod BlockLaws
pub mod VisitLaws
pub mod CutLaws
pub mod MergeLaws
pub mod ListedLaws
pub mod Rows
pub mod AscCuts
pub mod FillLaws
pub mod RenewLaws
pub mod ListLaws
pub mod Turn
