-- Plant files: limits, faults, reading, writing, and what the calls promise. What a call promises that reads a file and writes a
-- plant file from it.
pub mod Limits
pub mod Plants
pub mod Results
pub mod Within
pub mod Files
pub mod Refusals
pub mod Refused
pub mod Says
pub mod Views
pub mod Converts
pub mod Needs
