-- Laws of what is drawn. Laws of a stream's record.
pub mod Drawn
pub mod Records
