-- Marked places, handed over as bits; calls over lent slices.
pub mod Marks
pub mod Made
pub mod Lending
