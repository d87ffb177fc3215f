-- Laws of sheets drawn up elsewhere.
pub mod Filling
pub mod Stepping
pub mod Meeting
pub mod Numbers
pub mod Sums
pub mod Passing
pub mod Serving
pub mod Tested
pub mod Promise
pub mod Examples
