-- By the class.
use mathlib.Core.Path.{sym, ap}
use Rattle.sheet_def.specs.Sheets.{kind_of}
use Rattle.sheet_def.proofs.kinds.kind_of.Goals as goal

pub returns-in-Adjusted : goal.returns-in-Adjusted
returns-in-Adjusted c = ap kind_of (sym c.in-Adjusted.is)

pub returns-in-AsRead : goal.returns-in-AsRead
returns-in-AsRead c = ap kind_of (sym c.in-AsRead.is)

pub returns-in-Given : goal.returns-in-Given
returns-in-Given c = ap kind_of (sym c.in-Given.is)

pub returns-in-Withheld : goal.returns-in-Withheld
returns-in-Withheld c = ap kind_of (sym c.in-Withheld.is)
