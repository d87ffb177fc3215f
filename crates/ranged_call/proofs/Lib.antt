-- Laws of moved arrays, and of a refusal on the way home.
pub mod Mapped
pub mod Told
