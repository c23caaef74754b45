-- Laws that belong to no one function.
pub mod BusLaws
pub mod CallLaws
pub mod WaitLaws
