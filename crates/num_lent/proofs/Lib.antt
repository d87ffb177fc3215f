-- Laws of elements handed over in a slice. Laws of marked places as bits.
pub mod Handing
pub mod Rooms
pub mod Marking
pub mod OneNumber
