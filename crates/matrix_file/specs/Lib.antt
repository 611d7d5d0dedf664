pub mod MatrixFile
pub mod Example
