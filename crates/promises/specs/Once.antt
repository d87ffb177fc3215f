-- No choice is left by the exported calls over lent slices: what is found after one follows from what was handed in.
use Rattle.std.specs.Prelude.{◌≡◌, List, ℤ, ℕ}
use Rattle.plant_parts.specs.Parts.{Slices}
use Rattle.plant_lent.specs.Lent.{PlantFound}
use Rattle.purchase_call.specs.Lent.{BuyFound}
use Rattle.survey_answers.specs.Lent.{SurveyFound}
use Rattle.visit_call.specs.Lent.{VisitsFound}
use Rattle.charge_call.specs.Lent.{ChargesFound}

-- At most one thing is found.
abbrev pub Once : {F : Type 0} → (F → Type 0) → Type 0
Once {F} Found = (f g : F) → Found f → Found g → f ≡ g

-- So it is of plants read, meters to buy, surveys, meters worth a visit and charges.
pub record LentOnce : Type 0 where
  pub plant : (file : List ℕ) (p : Slices) → Once (PlantFound file p)
  pub purchase : (file prices o : List ℕ) → Once (BuyFound file prices o)
  pub survey : (file cs : List ℕ) → Once (SurveyFound file cs)
  pub visits : (file ns cs : List ℕ) → Once (VisitsFound file ns cs)
  pub charges : (file rates ns : List ℕ) (cs : List ℤ) → Once (ChargesFound file rates ns cs)
