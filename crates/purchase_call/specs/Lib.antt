-- Meters to buy, handed over in a slice.
pub mod Lent
