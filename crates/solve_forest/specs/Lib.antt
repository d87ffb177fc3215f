-- Definitions that the contracts of spanning cite. Definitions that the contracts of routing cite.
pub mod Forests
pub mod Routes
