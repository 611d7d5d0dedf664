pub mod Left
pub mod Call
pub mod Exact
pub mod Computed
