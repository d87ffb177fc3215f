-- Laws of numbers as text.
pub mod Behind
pub mod Decimals
pub mod Signs
pub mod Lines
