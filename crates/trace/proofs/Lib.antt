-- The theorems, and the laws that they and the proofs of the functions cite.
pub mod CodecLaws
pub mod Examples
pub mod FitLaws
pub mod Inverse
pub mod KindLaws
pub mod MatchLaws
pub mod NumberLaws
pub mod OkLaws
pub mod ReadLaws
pub mod StepLaws
pub mod TraceOk
pub mod WriterLaws
