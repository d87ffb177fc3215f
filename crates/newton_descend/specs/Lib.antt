-- Definitions that the contracts of potentials cite: their bounds, nets at them, the length of a step, and the guess at an overfull set.
pub mod Levels
pub mod Nets
pub mod Descents
pub mod Guesses
