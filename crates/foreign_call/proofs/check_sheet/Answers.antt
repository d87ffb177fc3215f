-- The number of what is refused.
use Rattle.foreign_call.proofs.check_sheet.Goals as goal

pub returns : goal.returns
returns c = rw c.check_number.ensures c.check.ensures
