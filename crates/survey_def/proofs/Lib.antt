-- Laws of surveys: one pass decides a layout, sets as the bits of numbers, what a turn of the call's loops does, the call's promise,
-- the listing's plant.
pub mod Deciding
pub mod Masks
pub mod Turns
pub mod Promise
pub mod Samples
