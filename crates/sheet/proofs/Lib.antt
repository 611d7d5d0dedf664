pub mod Laws
pub mod CountLaws
pub mod Widths
pub mod Witness
