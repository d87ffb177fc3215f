-- The ends of a stream.
pub mod Runs
