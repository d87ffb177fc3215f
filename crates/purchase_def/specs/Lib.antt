-- Meters to buy: prices, sets of streams, the best of them, what the call promises; and how the set is chosen.
pub mod Purchases
pub mod Results
pub mod Says
pub mod Views
pub mod Choosing
