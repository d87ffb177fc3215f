-- The version of the part.
pub mod Version
