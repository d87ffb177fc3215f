-- Laws of moved plants' sheets.
pub mod Alike
pub mod Near
pub mod Same
pub mod Mixed
