-- Laws of the sheet reader.
pub mod Loop
