-- What comes in, less what goes out.
use mathlib.Core.Path.{◌∙◌, ap}
use mir.Syntax.{w64}
use mir.Val.{SFits}
use mir.ValLaws.{to_z-of_z}
use lib.IntN.{ℤ, pos}
use lib.Dec.{eqb}
use mathlib.Core.Path.{◌≡◌}
use Rattle.num_bytes.specs.Choice.{pick}
use Rattle.certify_stream.proofs.Widths.{ends_is}
use borrow.Author.Rules.{rules}
use Rattle.certify_stream.proofs.brought_to.Goals as goal
use Rattle.certify_stream.proofs.brought_to.Goals.{After-end_at-into, After-end_at-out}

into_is : (c : After-end_at-into) → let a = c.args in c.end_at-into.result ≡ pick (eqb a.s.to a.u) a.x (pos 0)
into_is c = let a = c.args in c.end_at-into.ensures ∙ ap (λ (z : ℤ). pick (eqb a.s.to a.u) z (pos 0)) (to_z-of_z w64 a.x c.ranges.x)

out_is : (c : After-end_at-out) → let a = c.args in c.end_at-out.result ≡ pick (eqb a.s.from a.u) a.x (pos 0)
out_is c =
    let a = c.args in
    c.end_at-out.ensures ∙ ap (λ (z : ℤ). pick (eqb a.s.from a.u) z (pos 0)) (to_z-of_z w64 a.x c.ranges.x)

pub returns : goal.returns
returns c =
    let f : SFits w64 c.end_at-into.result = search rules in
    let g : SFits w64 c.end_at-out.result = search rules in
    let a = c.args in
    ends_is (eqb a.s.to a.u) (eqb a.s.from a.u) a.x c.end_at-into.result c.end_at-out.result c.requires f g (into_is (goal.at.returns c).After-end_at-into) (out_is c)
