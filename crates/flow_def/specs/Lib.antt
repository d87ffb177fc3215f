-- Flows, the cheapest of them, groups and classes, the test, what a sheet shows, refusal 19, certificates of a flow, and what calls
-- need. Flows in fractions of least cost, how far a sheet is from them, and potentials by which one is known. Plants where nothing is
-- withheld, plants with more streams metered, and streams without loops.
pub mod Flows
pub mod Chains
pub mod Groups
pub mod Classes
pub mod Labels
pub mod Sides
pub mod Test
pub mod Shown
pub mod Overfull
pub mod Certificate
pub mod Nets
pub mod Calls
pub mod Least
pub mod Exact
pub mod Withheld
pub mod Metering
pub mod Loops
