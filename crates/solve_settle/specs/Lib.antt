-- What settling requires.
pub mod Hints
pub mod Settled
