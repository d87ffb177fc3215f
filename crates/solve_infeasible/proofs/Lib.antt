-- Laws of the test of a set.
pub mod Edges
