-- Meters worth a visit, handed over in slices.
pub mod Lent
