-- Laws of prices. Laws of the call.
pub mod Prices
pub mod Answering
