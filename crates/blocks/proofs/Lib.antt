pub mod AskLaws
pub mod CheckLaws
pub mod SealLaws
pub mod FileLaws
