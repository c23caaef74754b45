-- Laws that belong to no one function.
pub mod HostLaws
pub mod StartLaws
