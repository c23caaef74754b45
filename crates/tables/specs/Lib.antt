-- Definitions that the contracts cite.
pub mod Action
pub mod Columns
pub mod Limits
pub mod Sizes
pub mod State
