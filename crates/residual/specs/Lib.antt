pub mod Residual
pub mod Answer
pub mod Promise
pub mod Lent
