-- Laws that belong to no one function.
pub mod ActionLaws
pub mod BusLaws
pub mod TimeLaws
pub mod DropLaws
pub mod LeaveLaws
