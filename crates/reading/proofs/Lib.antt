-- Laws that belong to no one function.
pub mod HeaderLaws
pub mod FilterLaws
