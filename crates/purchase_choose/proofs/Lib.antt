-- Laws of the choice.
pub mod Telling
