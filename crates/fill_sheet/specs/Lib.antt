pub mod FillSheet
