pub mod CallLaws
pub mod RoundTrip
pub mod ExampleFile
