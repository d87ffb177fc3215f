-- Numbers as text, and text put into a slice.
pub mod Numerals
pub mod Adding
