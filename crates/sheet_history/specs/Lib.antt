-- The counters over any sequence of calls, and on either side of the change.
pub mod Before
pub mod History
