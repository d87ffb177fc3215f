-- `ones_of` meets its contract: the ones among the bits passed are counted.
use mathlib.Core.Path.{◌≡◌, ap, ◌∙◌}
use Prim.Native.Nat.{ℕ, ◌+◌, ◌/◌, ◌%◌, ◌^◌}
use native.Mathlib.Omega.{arith}
use Rattle.num_bytes.specs.Sums.{bit}
use Rattle.num_bytes.proofs.Counts.{count_few}
use Rattle.survey_def.proofs.Turns.{ones_more}
use Rattle.survey_count.proofs.ones_of.Goals as goal

pub overflow_add-size : goal.overflow_add-size
overflow_add-size c = omega (arith, c.loop-j.invariant, count_few c.loop-j.j (λ j. bit j c.args.m))

pub loop-j-preserved : goal.loop-j-preserved
loop-j-preserved c =
    let at = c.loop-j in
    let m = c.args.m in
    ap (λ (x : ℕ). x + m / 2 ^ at.j % 2) at.invariant ∙ ones_more at.j m

pub returns : goal.returns
returns c =
    let at = c.loop-j in
    let a = c.args in
    let e : at.j ≡ a.n = omega arith in
    (rw e at at.invariant, omega (arith, count_few at.j (λ j. bit j a.m)))
