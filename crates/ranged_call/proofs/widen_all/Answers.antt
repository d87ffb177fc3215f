-- Each turn moves the next stream.
use mathlib.Core.Path.{◌≡◌, ap, ◌∙◌}
use mathlib.Core.List.{map}
use native.Mathlib.Omega.{arith}
use lib.ListN.{length, length-map}
use borrow.Author.Rules.{rules}
use Rattle.std.proofs.lemmas.List.{get_or-map}
use Rattle.plant_def.specs.Limits.{max_streams}
use Rattle.plant_def.specs.Plants.{no_stream}
use Rattle.num_bytes.proofs.Lists.{written_none, written_put, written_all}
use Rattle.ranged_def.specs.Moves.{widened}
use Rattle.ranged_call.proofs.widen_all.Goals as goal

pub loop-k-init : goal.loop-k-init
loop-k-init c = written_none (search rules)

pub loop-k-preserved : goal.loop-k-preserved
loop-k-preserved c =
    let at = c.loop-k in
    let kept = ap widened (at.invariant.rest at.k (omega arith)) in
    written_put at.invariant (omega arith) _ (c.widen.ensures ∙ kept)

pub returns : goal.returns
returns c =
    let xs = c.args.streams.now in
    let long : length xs ≡ max_streams = search rules in
    let e : c.loop-k.k ≡ max_streams = omega arith in
    written_all (rw e at c.loop-k.invariant) (map widened xs) (length-map xs widened ∙ long)
    (λ k l. get_or-map widened xs k no_stream no_stream (omega (arith, l, long)))
