pub mod Stages
pub mod Shaped
pub mod LengthLaws
pub mod ShapedLaws
pub mod Branches
pub mod Asking
pub mod Ends
