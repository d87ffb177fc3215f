-- Laws of plant files, in the order in which they build on one another. Laws of files read and written anew.
pub mod Numbers
pub mod Records
pub mod Limited
pub mod Accepted
pub mod Held
pub mod Loop
pub mod Arrayed
pub mod Found
pub mod There
pub mod Back
pub mod Amiss
pub mod Refusals
pub mod Longest
pub mod Promise
pub mod Sample
