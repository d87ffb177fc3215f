-- What becomes of a plant's sheet when the plant is moved to the ranged form.
pub mod Same
pub mod Mixed
