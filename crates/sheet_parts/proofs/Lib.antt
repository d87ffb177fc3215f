-- Laws of a sheet's parts in slices.
pub mod Handing
