pub mod Needs
pub mod Agree
