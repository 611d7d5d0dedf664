pub mod Values
pub mod Spans
pub mod WrittenRead
pub mod ReadWritten
pub mod OtherRight
pub mod Products
pub mod Witness
