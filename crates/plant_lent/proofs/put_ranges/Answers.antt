-- Each turn hands over whether the next stream has a range, and the ends of this.
use borrow.Author.Rules.{rules}
use Rattle.plant_def.specs.Plants.{no_stream}
use Rattle.num_lent.proofs.Handing.{one_handed}
use Rattle.plant_lent.proofs.put_ranges.Invariants.{told, lowest, highest}
use Rattle.plant_lent.proofs.put_ranges.Goals as goal

pub loop-k-preserved : goal.loop-k-preserved
loop-k-preserved c =
    let t = c.loop-k-test.true in
    let i = c.loop-k.invariant in (
      one_handed told i.0 no_stream _ t (search rules),
      one_handed lowest i.1 no_stream _ t (search rules),
      one_handed highest i.2 no_stream _ t (search rules),
    )
