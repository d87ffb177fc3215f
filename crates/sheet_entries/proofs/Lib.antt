-- Laws of entries. Laws of a balance by its parts.
pub mod Opening
pub mod Entering
pub mod Verdicts
pub mod Balanced
