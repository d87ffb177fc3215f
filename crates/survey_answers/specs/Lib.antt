-- A survey, handed over in a slice. A survey as text, what the call that puts it into a slice promises, and the text of the
-- listing's plant.
pub mod Lent
pub mod Text
pub mod Says
