-- The promises, proved.
pub mod Sent
pub mod Bounds
pub mod SheetCalls
pub mod Once
pub mod Promises
pub mod Engine
