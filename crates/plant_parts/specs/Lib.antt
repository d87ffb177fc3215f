-- A plant's parts, handed over in slices of numbers.
pub mod Parts
pub mod Inner
