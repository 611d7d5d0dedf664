pub mod ShapeLaws
pub mod ReadLaws
