-- Laws of the start.
pub mod Factored
