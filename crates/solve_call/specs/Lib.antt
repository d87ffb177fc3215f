-- What the solver hands over.
pub mod Answers
