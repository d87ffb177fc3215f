-- Steam charges, handed over in two slices.
pub mod Lent
