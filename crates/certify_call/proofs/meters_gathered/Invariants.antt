-- Each turn puts the next stream into the array.
use mathlib.Core.Path.{◌≡◌}
use lib.ListN.{length}
use Rattle.plant_def.specs.Limits.{max_streams}
use Rattle.plant_parts.specs.Inner.{meter_at}
use Rattle.certify_def.specs.Test.{Gathered}
use Rattle.certify_call.proofs.meters_gathered.Given as goal

abbrev pub invariant-loop-k : goal.invariant-loop-k
invariant-loop-k l = (length l.streams ≡ max_streams) × Gathered l.streams (meter_at l.from l.to l.metered l.weight l.reading) l.k
