-- The search for a way of no reduced cost, the augmentation along it and the solver over them, as definitions; what their parts require, and what
-- the solver promises. How many improvements the solver makes, and what is said of it.
pub mod Sizes
pub mod Counts
pub mod Held
pub mod ReducedCosts
pub mod Search
pub mod Near
pub mod Fringe
pub mod Augment
pub mod SearchNeeds
pub mod Compression
pub mod Full
pub mod Model
pub mod SolverNeeds
pub mod Promise
pub mod Made
pub mod Whole
pub mod Few
