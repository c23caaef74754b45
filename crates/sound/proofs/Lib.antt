-- Laws that belong to no one function.
pub mod EachLaws
pub mod BusLaws
pub mod JoinLaws
pub mod SlotLaws
pub mod StandingLaws
pub mod TieLaws
pub mod HeaderLaws
pub mod ListLaws
pub mod MailLaws
pub mod MarkLaws
pub mod PairLaws
pub mod ValueLaws
pub mod WordLaws
pub mod ZeroLaws
pub mod Exactly
