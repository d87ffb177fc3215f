-- Slices that reach, streams gathered from them, and the answer by what was tested.
pub mod Calling
