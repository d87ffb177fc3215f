-- One answer for every call, and what our own sheets show passes.
pub mod Agreeing
pub mod Promise
pub mod Examples
