pub mod Numbers
pub mod Payload
pub mod PayloadLaws
