-- What a stream takes away and meets, by one test.
pub mod Choices
