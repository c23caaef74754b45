-- Laws on bare lists and columns: nothing here knows a call.
pub mod Columns
pub mod Each
pub mod Ids
pub mod Least
pub mod Messages
pub mod Notices
pub mod Ties
pub mod Values
