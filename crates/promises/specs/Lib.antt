-- The promises: bounds of what the calls give, the exported sheet call, and every public theorem in one record.
pub mod Bounds
pub mod SheetCalls
pub mod Once
pub mod Promises
pub mod Engine
