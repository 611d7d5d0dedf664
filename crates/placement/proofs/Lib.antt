pub mod Examples
pub mod ListLaws
pub mod PlacingLaws
pub mod FillNested
