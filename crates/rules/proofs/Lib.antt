-- The theorems on the rules, and the laws that they cite.
pub mod Claims
pub mod Demands
pub mod Ends
pub mod Frames
pub mod Guards
pub mod Kept
pub mod Lists
pub mod Reckoned
pub mod Stories
pub mod Table
