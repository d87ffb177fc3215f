-- What an improvement over arcs requires.
pub mod Improves
