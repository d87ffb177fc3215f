-- Streams tested one after the other, and their nets.
pub mod Turning
