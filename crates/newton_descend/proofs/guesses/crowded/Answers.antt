-- `newton_descend::guesses::crowded` meets its contract: what the streams passed bring in is summed.
use Rattle.std.proofs.Common.{◌≡◌, ap, ◌∙◌, arith}
use lib.Ieee.{Float, lt}
use Rattle.newton_laplacian.specs.Readings.{half}
use Rattle.newton_descend.specs.Guesses.{into_to}
use Rattle.newton_descend.proofs.Guessing.{into_none, into_more}
use Rattle.newton_descend.proofs.guesses.crowded.Goals as goal

pub loop-k-init : goal.loop-k-init
loop-k-init c = into_none _ _ _

pub loop-k-preserved : goal.loop-k-preserved
loop-k-preserved c =
    into_more _ _ _ c.loop-k.k c.loop-k.sum _ c.loop-k.invariant c.into_at-sum.ensures

pub returns : goal.returns
returns c =
    let l = c.loop-k in
    let e : l.k ≡ c.args.streams.count = omega arith in
    ap (λ (x : Float). lt half x) (l.invariant ∙ ap (into_to _ _ _) e)
