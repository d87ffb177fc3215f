-- Laws of the potentials made whole, of nets, of the length of a step, and of the guess at an overfull set.
pub mod Levels
pub mod Steps
pub mod Trials
pub mod Guessing
