-- What the exported functions keep.
pub mod Exports
