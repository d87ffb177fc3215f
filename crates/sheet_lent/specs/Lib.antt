-- The sheet call over lent last numbers.
pub mod Bits
pub mod Lent
