-- Balances and sheets: a sheet taken apart, the sentences about its bytes and the demands; the bytes of a sheet, what the sheet
pub mod Totals
pub mod Counters
pub mod Sheets
pub mod Kept
pub mod Views
pub mod Sentences
pub mod Balances
pub mod Drawings
pub mod Says
pub mod DeskTool
pub mod Demands
pub mod Calls
pub mod Table
