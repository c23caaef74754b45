-- Definitions that the contracts cite.
pub mod Actions
pub mod Aged
pub mod Agrees
pub mod Answers
pub mod Buses
pub mod Calls
pub mod Examples
pub mod Good
pub mod Host
pub mod Rule
pub mod Run
pub mod Sound
pub mod Story
pub mod Terms
pub mod Trim
