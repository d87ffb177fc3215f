-- Bounds of wide numbers in 64 bits.
pub mod Widths
