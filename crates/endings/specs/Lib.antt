-- Definitions that the contracts cite.
pub mod Asked
pub mod Counted
pub mod Order
pub mod Partners
pub mod Stepwise
