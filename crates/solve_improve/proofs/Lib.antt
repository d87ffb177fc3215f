-- Laws of an improvement over arcs.
pub mod Improved
