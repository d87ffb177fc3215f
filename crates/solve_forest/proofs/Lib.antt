-- Laws of spanning forests. Laws of routed amounts.
pub mod Spanning
pub mod Routes
pub mod Counted
