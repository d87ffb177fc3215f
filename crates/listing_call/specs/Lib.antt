-- What the call that lists a plant promises, and the sample's own listing.
pub mod Says
pub mod Sample
pub mod Printed
