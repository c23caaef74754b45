pub mod ReadLaws
pub mod TellLaws
