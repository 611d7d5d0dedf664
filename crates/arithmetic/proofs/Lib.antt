pub mod StoppingLaws
pub mod Factors
pub mod Sums
