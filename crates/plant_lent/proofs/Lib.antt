-- Laws of a plant's parts in lent slices.
pub mod Handing
pub mod Trip
