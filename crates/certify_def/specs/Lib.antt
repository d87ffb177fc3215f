-- A flow found elsewhere, for a plant of wide numbers.
pub mod Number
pub mod Says
pub mod Test
