pub mod Print
pub mod Written
pub mod Prints
