pub mod Presented
pub mod PresentedLaws
