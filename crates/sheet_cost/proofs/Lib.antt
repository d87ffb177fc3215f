-- Laws of costs.
pub mod Costing
pub mod Rows
