-- The three tests, one after the other.
use mathlib.Core.Path.{◌≡◌, ◌∙◌}
use mathlib.Core.Bool.{true, false, not, ◌||◌}
use lib.Signed.{le_z}
use borrow.Author.Rules.{rules}
use Rattle.num_bytes.proofs.Tests.{clash}
use Rattle.flow_def.specs.Flows.{in_range}
use Rattle.flow_def.specs.Certificate.{rises, falls, least_climb, most_climb}
use Rattle.foreign_stream.proofs.Fitting as F
use Rattle.foreign_stream.proofs.flow_fits.Goals as goal
use Rattle.foreign_stream.proofs.flow_fits.Goals.{then-in_range, else-in_range}

pub returns-then-from_bottom : goal.returns-then-from_bottom
returns-then-from_bottom c =
    let a = c.args in
    elim c.if-in_range.branch [
      | then-in_range w ↦
          let e : in_range 1 a.s a.x ≡ true = search rules in
          let f : (not (falls a.s a.x) || le_z (least_climb a.s a.x) a.difference) ≡ true = search rules in
          let t : c.to_top.result ≡ (not (rises a.s a.x) || le_z a.difference (most_climb a.s a.x)) = search rules in
          t ∙ F.by_top a.s a.x a.difference e f
      | else-in_range w ↦ clash c.if-in_range.value c.if-from_bottom.true (w.value-is ∙ w.if-in_range.false)
    ]

pub returns-else-from_bottom : goal.returns-else-from_bottom
returns-else-from_bottom c =
    let a = c.args in
    elim c.if-in_range.branch [
      | then-in_range w ↦
          let e : in_range 1 a.s a.x ≡ true = search rules in
          let f : (not (falls a.s a.x) || le_z (least_climb a.s a.x) a.difference) ≡ false = search rules in
          c.if-from_bottom.false ∙ F.under_bottom a.s a.x a.difference e f
      | else-in_range w ↦
          let e : in_range 1 a.s a.x ≡ false = search rules in
          w.value-is ∙ w.if-in_range.false ∙ F.out_of_range a.s a.x a.difference e
    ]
