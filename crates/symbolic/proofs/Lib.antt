-- Laws of the structure pass.
pub mod Opening
pub mod Keeping
pub mod Sides
pub mod Asking
pub mod Plain
pub mod Sharing
pub mod Starts
pub mod Ends
pub mod Unwritten
pub mod Witness
