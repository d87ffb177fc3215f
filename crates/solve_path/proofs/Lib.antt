-- Laws of the codes. Laws of a walk over arcs.
pub mod Coding
pub mod Pacing
pub mod Turns
pub mod Going
pub mod Tight
pub mod Alike
