-- A survey of meter layouts: what is counted, what the call promises, the listing's plant, and what inner calls count.
pub mod Layouts
pub mod Results
pub mod Says
pub mod Views
pub mod Sample
pub mod Inner
