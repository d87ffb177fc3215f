-- Laws of the tie pass over arcs.
pub mod Evened
