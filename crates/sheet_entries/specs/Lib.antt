-- What one pass over the streams finds.
pub mod Entries
