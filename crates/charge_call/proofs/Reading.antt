-- A file that is refused.
use mathlib.Core.Path.{refl}
use mathlib.Core.List.{List}
use Prim.Native.Nat.{ℕ}
use Rattle.std.specs.Prelude.{Err}
use Rattle.plant_def.specs.declared.refusal.Refusal.{Refusal}
use Rattle.plant_def.specs.Refused.{refusal_number}
use Rattle.plant_def.specs.Says.{ReadSays}
use Rattle.plant_def.specs.Views.{read_as}
use Rattle.plant_def.proofs.Numbers.{some_number}
use Rattle.charge_def.specs.Says.{no_charges, ChargesSays}
use Rattle.charge_def.proofs.Answering.{unread}

-- Its refusal is the answer, and no charges.
pub file_refused : (file rates : List ℕ) (e : Refusal) → ReadSays file (read_as (Err e)) → ChargesSays file rates (no_charges (refusal_number e))
file_refused file rates e q = unread file rates (read_as (Err e)) q (no_charges (refusal_number e)) (some_number e) refl
