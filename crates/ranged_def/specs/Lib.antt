-- Plants moved to the ranged form and home again, and what the two calls promise.
pub mod Moves
pub mod Trip
