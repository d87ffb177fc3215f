-- The listing of a balance as text, and the room that it takes.
pub mod Listing
pub mod Room
