-- What is drawn of an outcome.
pub mod Draws
