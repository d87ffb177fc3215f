-- No choice is left by the exported calls over lent slices, by one law.
use mathlib.Core.Path.{◌≡◌, refl, sym, ◌∙◌}
use mathlib.Core.Bool.{Bool, true, false}
use mathlib.Core.Logic.{◌⊎◌, inl, inr}
use Prim.Native.Nat.{◌-◌}
use lib.ListN.{length}
use Rattle.plant_def.specs.Limits.{max_streams}
use Rattle.plant_parts.specs.Parts.{reaches}
use Rattle.num_bytes.proofs.Tests.{clash}
use Rattle.num_lent.proofs.Rooms.{by_length, by_lengths}
use Rattle.num_lent.proofs.Rooms as Rooms
use Rattle.purchase_def.proofs.Promise.{meters_to_buy}
use Rattle.survey_def.specs.Says.{survey_size}
use Rattle.survey_def.proofs.Promise.{one_survey}
use Rattle.visit_def.proofs.Promise.{meters_worth_a_visit}
use Rattle.charge_def.proofs.Promise.{steam_charges}
use Rattle.promises.specs.Once.{LentOnce}

-- A test holds, or it does not.
by_test : (b : Bool) → (b ≡ true) ⊎ (b ≡ true → ⊥)
by_test true = inl refl
by_test false = inr (λ h. clash false h refl)

-- Each by what leaves no choice of its answer.
pub lent_once : LentOnce
lent_once = record {
  plant = λ file p. Rooms.lent_once _ _ _ _ _ _ (by_test (reaches p (max_streams - 1))) (λ r s e d. e ∙ sym d);
  purchase = λ file prices o. Rooms.lent_once _ _ _ _ _ _ (by_length max_streams (length o)) (meters_to_buy.only file prices);
  survey = λ file cs. Rooms.lent_once _ _ _ _ _ _ (by_length survey_size (length cs)) (one_survey file);
  visits = λ file ns cs. Rooms.lent_once _ _ _ _ _ _ (by_lengths max_streams (length ns) (length cs)) (meters_worth_a_visit.only file);
  charges = λ file rates ns cs. Rooms.lent_once _ _ _ _ _ _ (by_lengths max_streams (length ns) (length cs)) (steam_charges.only file rates);
}
