-- No choice is left; the text of the worked example.
use mathlib.Core.Path.{ap, subst}
use mathlib.Core.List.{List}
use Prim.Native.Nat.{ℕ}
use Rattle.num_bytes.specs.Inner.{Put}
use Rattle.num_text.specs.Numerals.{decimal}
use Rattle.visit_def.specs.Says.{VisitsSays}
use Rattle.visit_def.proofs.Promise.{meters_worth_a_visit}
use Rattle.visit_def.proofs.Samples.{sample}
use Rattle.visit_text.specs.Text.{visits_text}
use Rattle.listing_lines.specs.Room.{OneText}
use Rattle.listing_lines.proofs.Told.{one_told}
use Rattle.visit_text.specs.Says.{least_text, TextSays, Texts}

-- No choice is left.
pub one_text : OneText TextSays
one_text file o o₁ o₂ r₁ r₂ a b = one_told visits_text (VisitsSays file) (meters_worth_a_visit.only file) least_text o o₁ o₂ r₁ r₂ a.too_short b.too_short a.told b.told

-- The texts of the examples.
pub texts : Texts
unfolding decimal
texts = record {
  listing = λ o o' r h s. let x = s.told h in subst (λ (l : List ℕ). Put l o o' r) (ap visits_text (sample x.0 x.1)) x.2;
}
