-- What a program is fed.
pub mod Reads
pub mod Fed
