-- No choice is left; the texts of two plants.
use mathlib.Core.Path.{ap, subst}
use mathlib.Core.List.{List}
use Prim.Native.Nat.{ℕ}
use Rattle.num_bytes.specs.Inner.{Put}
use Rattle.num_text.specs.Numerals.{decimal}
use Rattle.survey_def.specs.Says.{SurveySays}
use Rattle.survey_def.proofs.Promise.{one_survey}
use Rattle.survey_def.proofs.Samples.{samples}
use Rattle.survey_answers.specs.Text.{survey_text}
use Rattle.listing_lines.specs.Room.{OneText}
use Rattle.listing_lines.proofs.Told.{one_told}
use Rattle.survey_answers.specs.Says.{least_text, TextSays, Texts}

-- No choice is left.
pub one_text : OneText TextSays
one_text file o o₁ o₂ r₁ r₂ a b = one_told survey_text (SurveySays file) (one_survey file) least_text o o₁ o₂ r₁ r₂ a.too_short b.too_short a.told b.told

-- The texts of the examples.
pub texts : Texts
unfolding decimal
texts = record {
  listing = λ o o' r h s. let x = s.told h in subst (λ (l : List ℕ). Put l o o' r) (ap survey_text (samples.listed x.0 x.1)) x.2;
  empty = λ o o' r h s. let x = s.told h in subst (λ (l : List ℕ). Put l o o' r) (ap survey_text (samples.empty x.0 x.1)) x.2;
}
