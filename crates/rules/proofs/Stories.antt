-- What is so of lists of calls with their answers.
pub mod Answers
pub mod BenchRun
pub mod Buses
pub mod BusRun
pub mod Copies
pub mod Ends
pub mod Examples
pub mod Host
pub mod Metronome
pub mod NotVacuous
pub mod Order
pub mod Over
pub mod Plays
pub mod Showing
pub mod SlotLife
pub mod Story
pub mod Waits
