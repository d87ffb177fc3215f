-- A plant's parts, handed over in lent slices; that writing and reading them undo each other.
pub mod Lent
pub mod Inner
pub mod Trip
