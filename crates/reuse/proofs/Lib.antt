pub mod Standing
pub mod Refactoring
pub mod OtherRight
pub mod Stored
pub mod Kept
pub mod Resolving
pub mod Contracts
pub mod Witness
