pub mod Again
pub mod AgainLaws
