-- Laws of signed products as the code holds them. Laws of the streams that are charged and of their rates.
pub mod Sizes
pub mod Gathered
