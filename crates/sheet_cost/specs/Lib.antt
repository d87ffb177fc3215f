-- What a stream costs by its row.
pub mod Rows
