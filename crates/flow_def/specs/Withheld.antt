-- Nothing is withheld.
use Rattle.std.specs.Prelude.{◌≡◌, List, ℤ, ℕ}
use Rattle.plant_def.specs.Plants.{Plant}
use Rattle.flow_def.specs.Flows.{amount_at, Agree}
use Rattle.flow_def.specs.Shown.{Unmetered}

-- On each unmetered stream every two balanced flows are equal that are equal on all metered streams.
abbrev pub NoneWithheld : Plant → Type 0
NoneWithheld p = (i : ℕ) → Unmetered p i → (ys zs : List ℤ) → Agree p ys zs → amount_at ys i ≡ amount_at zs i
