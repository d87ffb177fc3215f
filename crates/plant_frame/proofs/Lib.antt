-- Laws of files of this shape.
pub mod Chosen
