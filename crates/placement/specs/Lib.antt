pub mod Placing
pub mod ListLaws
pub mod PlacingLaws
pub mod FillNested
