-- Definitions that the contracts cite.
pub mod Buses
pub mod Kinds
pub mod Marks
pub mod Pairs
pub mod Standing
pub mod Ties
pub mod Values
