-- Each turn puts the next stream into the array.
use mathlib.Core.Path.{◌≡◌}
use Rattle.plant_def.specs.Limits.{max_streams}
use Rattle.plant_def.specs.Says.{padded}
use Rattle.plant_parts.specs.Parts.{listed_to}
use Rattle.plant_parts.specs.Inner.{meter_at}
use Rattle.plant_parts.proofs.meters_gathered.Given as goal

abbrev pub invariant-loop-k : goal.invariant-loop-k
invariant-loop-k l =
    l.streams ≡ padded max_streams (listed_to (meter_at l.from l.to l.metered l.weight l.reading) l.k)
