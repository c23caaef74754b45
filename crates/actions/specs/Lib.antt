-- Definitions that the contracts cite, beside those of the crates below.
pub mod Ageing
pub mod Emptying
pub mod Leaving
pub mod Publishing
pub mod Standing
pub mod Times
