-- By whether it is metered.
use lib.IntN.{ℤ}
use lib.Signed.{le_z}
use Prim.Native.Nat.{ℕ}
use mir.Syntax.{w64}
use mir.Val.{SFits}
use Rattle.flow_def.specs.Certificate.{upper}
use Rattle.certify_def.specs.Test.{plainly}
use Rattle.certify_stream.proofs.Widths as W
use borrow.Author.Rules.{rules}
use Rattle.certify_stream.proofs.climbs_little.Goals as goal

pub returns-then-s : goal.returns-then-s
returns-then-s c =
    let a = c.args in
    let fd : SFits w64 c.correction-d.result = search rules in
    let fr : SFits w64 a.s.reading = search rules in
    W.climb_held (λ (w : ℕ) (d t : ℤ). le_z t (upper 1 w d)) (plainly a.s) a.x c.correction-d.result a.difference _ c.ranges.x fr fd c.ranges.difference
    c.if-s.true c.correction-d.ensures.0 c.below_upper.ensures
