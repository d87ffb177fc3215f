-- Laws of what the solver hands over.
pub mod Solving
