-- Laws of moved plants.
pub mod Mapped
pub mod Faultless
pub mod Reading
pub mod Trip
