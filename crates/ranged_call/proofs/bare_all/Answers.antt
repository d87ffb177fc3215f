-- Each turn moves the next stream.
use mathlib.Core.Path.{◌≡◌, ap, ◌∙◌}
use mathlib.Core.List.{map}
use native.Mathlib.Omega.{arith}
use lib.ListN.{length, length-map}
use borrow.Author.Rules.{rules}
use Rattle.std.proofs.lemmas.List.{get_or-map}
use Rattle.plant_def.specs.Limits.{max_streams}
use Rattle.plant_def.specs.Plants.{no_stream}
use Rattle.num_bytes.proofs.Lists.{written_none, written_put, written_all}
use Rattle.ranged_def.specs.Moves.{bared}
use Rattle.ranged_call.proofs.bare_all.Goals as goal

pub loop-i-init : goal.loop-i-init
loop-i-init c = written_none (search rules)

pub loop-i-preserved : goal.loop-i-preserved
loop-i-preserved c =
    let at = c.loop-i in
    let kept = ap bared (at.invariant.rest at.i (omega arith)) in
    written_put at.invariant (omega arith) _ (c.bare.ensures ∙ kept)

pub returns : goal.returns
returns c =
    let xs = c.args.streams.now in
    let long : length xs ≡ max_streams = search rules in
    let e : c.loop-i.i ≡ max_streams = omega arith in
    written_all (rw e at c.loop-i.invariant) (map bared xs) (length-map xs bared ∙ long)
    (λ k l. get_or-map bared xs k no_stream no_stream (omega (arith, l, long)))
