-- After i turns the first i streams have their prices, and k unmetered ones are passed.
use mathlib.Core.Path.{◌≡◌}
use lib.ListN.{replicate}
use Rattle.plant_def.specs.Limits.{max_streams}
use Rattle.plant_def.specs.Says.{plant_of}
use Rattle.num_bytes.proofs.Lists.{Written}
use Rattle.purchase_def.specs.Purchases.{unmetered_to, price_in}
use Rattle.purchase_call.proofs.by_stream.Given as goal

abbrev pub invariant-loop-i : goal.invariant-loop-i
invariant-loop-i l = let k = l.k in
    (k ≡ unmetered_to (plant_of l.p).streams l.i)
    × Written 0 max_streams (λ k x. price_in (plant_of l.p).streams l.prices k) (replicate max_streams 0) l.each l.i
