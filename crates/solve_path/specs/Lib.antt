-- The codes that a walk keeps. The steps of a walk over arcs.
pub mod Codes
pub mod Paces
