-- Laws of the comparing pass.
pub mod Lists
pub mod Places
pub mod Question
pub mod Ends
pub mod Witness
