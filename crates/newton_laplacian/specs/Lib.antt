-- Definitions that the contracts of the gathered streams and of the equations cite.
pub mod Readings
pub mod Ends
pub mod Amounts
pub mod Cells
