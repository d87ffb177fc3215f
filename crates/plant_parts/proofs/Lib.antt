-- Laws of a plant's parts in slices.
pub mod Gather
pub mod Counts
