-- A sheet's parts, handed over in slices of numbers.
pub mod Kept
