-- Laws of meters to buy.
pub mod Layers
pub mod Keeping
pub mod Firsts
pub mod Buying
pub mod Sets
pub mod Promise
pub mod Price
