-- Laws of the gathered streams, of rows as real numbers and of the equations.
pub mod Ends
pub mod Reals
pub mod Rows
pub mod Changes
