-- Laws of the sheet call.
pub mod Answered
