-- Each turn hands over whether the next stream is metered, its weight and its reading.
use borrow.Author.Rules.{rules}
use mathlib.Core.Path.{refl}
use Rattle.plant_def.specs.Plants.{no_stream}
use Rattle.num_lent.proofs.Handing.{one_handed}
use Rattle.plant_lent.proofs.put_meters.Invariants.{told, weighed, read}
use Rattle.plant_lent.proofs.put_meters.Goals as goal

pub loop-k-preserved : goal.loop-k-preserved
loop-k-preserved c =
    let t = c.loop-k-test.true in
    let i = c.loop-k.invariant in (
      one_handed told i.0 no_stream _ t (search rules),
      one_handed weighed i.1 no_stream _ t refl,
      one_handed read i.2 no_stream _ t (search rules),
    )
