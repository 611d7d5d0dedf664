pub mod Cut
pub mod Keeping
pub mod Chain
