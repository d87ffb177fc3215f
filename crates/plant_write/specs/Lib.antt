-- What is handed over by number.
pub mod Told
