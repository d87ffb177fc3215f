-- Laws of the summed weights. Laws of the test.
pub mod Summing
pub mod Edges
