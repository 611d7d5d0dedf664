pub mod Sheet
pub mod Printing
pub mod Counting
pub mod Lent
