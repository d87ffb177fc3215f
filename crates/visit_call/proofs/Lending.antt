-- What is handed over has room in the slices.
use mathlib.Core.Path.{refl}
use mathlib.Core.List.{List}
use Prim.Native.Nat.{ℕ, ◌≤◌}
use Rattle.plant_def.specs.Limits.{max_streams}
use Rattle.num_lent.specs.Made.{Made}
use Rattle.num_lent.proofs.Rooms.{room_both}
use Rattle.visit_def.specs.Results.{Visits}
use Rattle.visit_def.specs.Says.{no_visits, VisitsSays}
use Rattle.visit_def.proofs.Promise.{visits_fit}

-- There is room: no more are listed than there may be, nor than either slice holds.
pub room_lent : (file : List ℕ) (m n : ℕ) (r : Visits) → Made ((max_streams ≤ m) × (max_streams ≤ n)) no_visits (VisitsSays file) r
    → (r.count ≤ max_streams) × (r.count ≤ m) × (r.count ≤ n)
room_lent file = room_both no_visits (VisitsSays file) (λ v. v.count) refl (visits_fit file)
