pub mod NumberLaws
pub mod FloatLaws
pub mod PutLaws
pub mod FieldLaws
pub mod PartLaws
pub mod ZeroLaws
pub mod WindowLaws
pub mod WordLaws
