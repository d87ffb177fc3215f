-- What is promised of the check of a flow found elsewhere.
pub mod Promise
