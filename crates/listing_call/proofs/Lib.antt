-- Laws of the listing call.
pub mod Promise
pub mod Sample
pub mod Printed
