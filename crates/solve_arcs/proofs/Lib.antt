-- Laws of arcs and margins.
pub mod Stores
pub mod Along
pub mod Passing
pub mod Finding
pub mod Rowing
