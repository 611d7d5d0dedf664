pub mod ExampleFile
pub mod LengthLaws
pub mod JudgingLaws
pub mod CallLaws
