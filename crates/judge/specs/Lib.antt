-- Definitions that the contracts cite.
pub mod Feeding
pub mod Forms
pub mod Replayed
