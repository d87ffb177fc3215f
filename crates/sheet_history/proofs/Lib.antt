-- Laws of the counters.
pub mod Steps
pub mod Sequences
pub mod Plain
pub mod Reading
pub mod Today
pub mod History
