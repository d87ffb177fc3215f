-- What the phases require, and what they come to.
pub mod Finishes
pub mod Phases
