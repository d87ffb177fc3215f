-- What a 0 of the check says, and the check as the code makes it.
pub mod Sound
pub mod Answer
