-- Laws of the lines of a listing. Laws of lines put one behind the other.
pub mod Sizes
pub mod Lined
pub mod Told
