-- Laws of numbers by potentials. Laws of the call over numbers of the places.
pub mod Numbering
pub mod Potentials
