-- Laws of the nearest amount. Laws of settling over arcs and rows.
pub mod Quotients
pub mod Rowing
