-- What is lent and only read, and what is left as it was.
pub mod Reading
pub mod ReadingLaws
