-- What augmenting requires, and what it comes to.
pub mod Augmented
