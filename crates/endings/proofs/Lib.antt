-- Laws that belong to no one function.
pub mod EndingLaws
pub mod FiringLaws
pub mod OrderLaws
pub mod PartnerLaws
