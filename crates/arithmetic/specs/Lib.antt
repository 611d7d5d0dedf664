pub mod Arith
pub mod Again
pub mod Meets
pub mod Stopping
pub mod RowEnd
pub mod Factors
pub mod Sticky
pub mod Sums
