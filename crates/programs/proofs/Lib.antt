-- What the answers of a read say.
pub mod Answers
