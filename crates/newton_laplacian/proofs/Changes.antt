-- One place more taken off the right-hand side.
use mathlib.Core.Path.{◌≡◌, refl, ap}
use mathlib.Core.Bool.{false}
use mathlib.Core.List.{List}
use Prim.Native.Nat.{ℕ, ◌+◌, ◌*◌}
use native.Mathlib.Numerals.{add-one}
use lib.ListN.{get_or}
use lib.Ieee.{Float, nan, binary64, sub, mul, div, lt}
use Rattle.newton_laplacian.specs.Cells.{width, rest_to, change_at}

-- Before the first place the right-hand side is whole,
pub rest_none : (a xs : List Float) (k : ℕ) → get_or a (k * width) nan ≡ rest_to a xs k 0
unfolding rest_to
rest_none a xs k = refl

-- and each place takes off its coefficient times its change.
pub rest_more : (a xs : List Float) (k j : ℕ) (r : Float) → r ≡ rest_to a xs k j
    → sub binary64 r (mul binary64 (get_or a (k * width + 1 + j) nan) (get_or xs j nan)) ≡ rest_to a xs k (j + 1)
unfolding rest_to
rest_more a xs k j r e = rw (add-one j) (ap (λ (x : Float). sub binary64 x (mul binary64 (get_or a (k * width + 1 + j) nan) (get_or xs j nan))) e)

-- All places before it are taken off, and the pivot is not below the least one.
pub change_found : (least : Float) (a xs : List Float) (k : ℕ) (r : Float) → lt (get_or a (k * width + 1 + k) nan) least ≡ false → r ≡ rest_to a xs k k
    → div binary64 r (get_or a (k * width + 1 + k) nan) ≡ change_at least a xs k
change_found least a xs k r f e = rw f (ap (λ (x : Float). div binary64 x (get_or a (k * width + 1 + k) nan)) e)
