-- The critical values rise: one test over the table, and the rule at each entry.
use mathlib.Core.Path.{◌≡◌, refl}
use mathlib.Core.Bool.{Bool, true, ◌&&◌}
use mathlib.Core.List.{List, [], ◌∷◌}
use Prim.Native.Nat.{ℕ, zero, suc, ◌<◌}
use native.Mathlib.Omega.{arith}
use borrow.Author.Tests.{ltb-true}
use lib.Dec.{ltb}
use lib.ListN.{length, get_or}
use Rattle.num_bytes.proofs.Tests.{and_left, and_right}
use Rattle.flow_def.specs.Test.{critical}

-- Each entry is above the one before it, the first above x.
abbrev rising : ℕ → List ℕ → Bool
rising x [] = true
rising x (y ∷ ys) = ltb x y && rising y ys

rising_at : (x : ℕ) (xs : List ℕ) (k : ℕ) → rising x xs ≡ true → suc k < length xs → get_or xs k 0 < get_or xs (suc k) 0
rising_at x [] k e h = absurd (omega arith)
rising_at x (y ∷ []) k e h = absurd (omega arith)
rising_at x (y ∷ z ∷ zs) zero e h = ltb-true y z (and_left (ltb y z) (rising z zs) (and_right (ltb x y) (rising y (z ∷ zs)) e))
rising_at x (y ∷ z ∷ zs) (suc k) e h = rising_at y (z ∷ zs) k (and_right (ltb x y) (rising y (z ∷ zs)) e) (omega arith)

-- Each critical value is above the one before it.
pub critical_rises : (k : ℕ) → suc k < length critical → get_or critical k 0 < get_or critical (suc k) 0
critical_rises k h = rising_at 0 critical k refl h
