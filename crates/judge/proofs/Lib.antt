-- The theorems, and the laws that the proofs of the functions cite.
pub mod ArmLaws
pub mod BusLaws
pub mod CallLaws
pub mod FeedLaws
pub mod FormLaws
pub mod Once
pub mod ReplayLaws
pub mod RunLaws
pub mod StartLaws
pub mod Traces
