-- Sheets drawn up elsewhere: what passes, what the check says, numbers of our own, and the computed test.
pub mod Passing
pub mod Says
pub mod Numbers
pub mod Views
pub mod Test
