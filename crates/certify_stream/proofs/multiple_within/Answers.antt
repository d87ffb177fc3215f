-- By the signs, then by the sizes.
use mathlib.Core.Path.{◌≡◌, ◌∙◌, ap}
use mathlib.Core.Bool.{true, false}
use lib.IntN.{pos, nat_abs}
use lib.Signed.{le_z}
use mir.Syntax.{w64}
use mir.ValLaws.{to_z-of_z}
use Rattle.certify_stream.proofs.Widths as W
use Rattle.certify_stream.proofs.multiple_within.Goals as goal
use Rattle.certify_stream.proofs.multiple_within.Goals.{After-unsigned_abs-limit, After-unsigned_abs-size, Else-a-ge0, Else-d-ge0, Then-d-ge0}

size : (c : After-unsigned_abs-size) → c.unsigned_abs-size.result ≡ nat_abs c.args.d
size c = c.unsigned_abs-size.ensures.value ∙ ap nat_abs (to_z-of_z w64 c.args.d c.ranges.d)

limit : (c : After-unsigned_abs-limit) → c.unsigned_abs-limit.result ≡ nat_abs c.args.a
limit c = c.unsigned_abs-limit.ensures.value ∙ ap nat_abs (to_z-of_z w64 c.args.a c.ranges.a)

not_under : (c : Then-d-ge0) → le_z (pos 0) c.args.d ≡ true
not_under c = rw (to_z-of_z w64 c.args.d c.ranges.d) at c.if-d-ge0.true

under : (c : Else-d-ge0) → le_z (pos 0) c.args.d ≡ false
under c = rw (to_z-of_z w64 c.args.d c.ranges.d) at c.if-d-ge0.false

pub returns-then-a-lt0 : goal.returns-then-a-lt0
returns-then-a-lt0 c =
    W.up_over_down c.args.by c.args.d c.args.a (not_under (goal.at.returns-then-a-lt0 c).Then-d-ge0) (rw (to_z-of_z w64 c.args.a c.ranges.a) at c.if-a-lt0.true)

pub returns-then-d-ge0 : goal.returns-then-d-ge0
returns-then-d-ge0 c =
    W.up_by_sizes c.args.by c.args.d c.args.a _ _ (size (goal.at.returns-then-d-ge0 c).After-unsigned_abs-size) (limit (goal.at.returns-then-d-ge0 c).After-unsigned_abs-limit) _ c.times_within.ensures (not_under (goal.at.returns-then-d-ge0 c).Then-d-ge0)
    (rw (to_z-of_z w64 c.args.a c.ranges.a) at c.if-a-lt0.false)

pub returns-then-a-ge0 : goal.returns-then-a-ge0
returns-then-a-ge0 c =
    W.down_under_up c.args.by c.args.d c.args.a (under (goal.at.returns-then-a-ge0 c).Else-d-ge0) (rw (to_z-of_z w64 c.args.a c.ranges.a) at c.if-a-ge0.true)

bound_under : (c : Else-a-ge0) → le_z (pos 0) c.args.a ≡ false
bound_under c = rw (to_z-of_z w64 c.args.a c.ranges.a) at c.if-a-ge0.false

pub returns : goal.returns
returns c =
    W.down_by_sizes c.args.by c.args.d c.args.a _ _ (size (goal.at.returns c).After-unsigned_abs-size) (limit (goal.at.returns c).After-unsigned_abs-limit) _ c.times_within-2.ensures (under (goal.at.returns c).Else-d-ge0) (bound_under (goal.at.returns c).Else-a-ge0)
