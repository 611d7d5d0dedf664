pub mod Shape
pub mod Input
pub mod Lists
pub mod ListsLaws
pub mod Questions
