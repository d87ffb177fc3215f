-- Laws of a survey that is handed over, and of its text: its lines one behind the other, no choice.
pub mod Lending
pub mod Lined
pub mod Promise
