-- Laws that belong to no one function.
pub mod ActionLaws
pub mod LimitLaws
pub mod LoopLaws
pub mod RowLaws
pub mod ViewLaws
