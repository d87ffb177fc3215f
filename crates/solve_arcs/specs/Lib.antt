-- Residual arcs, rows and marginal costs: the streams in use as the search goes over them.
pub mod Cells
pub mod Margins
pub mod ArcNeeds
