-- What the exported calls of many slices and numbers promise.
pub mod Calls
