-- Numbers of the places, handed over in a slice.
pub mod Lent
