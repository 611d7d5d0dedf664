pub mod Settled
pub mod Lent
pub mod MarkingLaws
pub mod ScatterLaws
pub mod AskLaws
pub mod SettledLaws
