-- One element is stored.
use mathlib.Core.Path.{ap}
use native.Mathlib.Numerals.{add-one}
use lib.ListN.{get_or, set}
use Rattle.sheet_write.proofs.raise.Goals as goal

pub returns : goal.returns
returns c = ap (set c.args.lasts c.args.office) (add-one (get_or c.args.lasts c.args.office 0))
