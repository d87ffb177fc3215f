-- What the tie pass over arcs requires.
pub mod Evens
