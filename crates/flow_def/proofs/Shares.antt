-- One stream of weight w in two flows: squares of deviations, of their mixture and of their difference.
use mathlib.Core.Path.{◌≡◌, sym, ◌∙◌, ap, ap₂}
use lib.IntN.{ℤ, pos, ◌+ℤ◌, ◌-ℤ◌, ◌*ℤ◌}
use Prim.Native.Nat.{ℕ, suc, ◌*◌}
use native.Mathlib.Omega.{arith}
use Rattle.flow_def.specs.Flows.{square}
use Rattle.num_bytes.proofs.Integers.{canon, Z_diff}
use Rattle.flow_def.proofs.Squares.{square_is}

weighed_square : (w : ℕ) (x : ℤ) → pos (w * square x) ≡ pos w *ℤ (x *ℤ x)
weighed_square w x = ap (λ (z : ℤ). pos w *ℤ z) (square_is x)

square_mixed : (n : ℕ) (a e : ℤ) → (pos n *ℤ a +ℤ e) *ℤ (pos n *ℤ a +ℤ e) ≡ pos (n * n) *ℤ (a *ℤ a) +ℤ (pos (2 * n) *ℤ (a *ℤ e) +ℤ e *ℤ e)
square_mixed n a e = rw (← canon a, ← canon e) (simp Z_diff (omega arith))

weighed_three : (w k l : ℕ) (x y z : ℤ) → pos w *ℤ (pos k *ℤ x +ℤ (pos l *ℤ y +ℤ z)) ≡ pos k *ℤ (pos w *ℤ x) +ℤ (pos l *ℤ (pos w *ℤ y) +ℤ pos w *ℤ z)
weighed_three w k l x y z = rw (← canon x, ← canon y, ← canon z) (simp Z_diff (omega arith))

-- Deviations a and e of two flows: n parts of the first and one of the second.
pub mixed_share : (n w : ℕ) (a e : ℤ) → pos (w * square (pos n *ℤ a +ℤ e))
    ≡ pos (n * n) *ℤ pos (w * square a) +ℤ (pos (2 * n) *ℤ (pos w *ℤ (a *ℤ e)) +ℤ pos (w * square e))
mixed_share n w a e =
    weighed_square w (pos n *ℤ a +ℤ e)
    ∙ ap (λ (z : ℤ). pos w *ℤ z) (square_mixed n a e)
    ∙ weighed_three w (n * n) (2 * n) (a *ℤ a) (a *ℤ e) (e *ℤ e)
    ∙ ap₂ ◌+ℤ◌ (ap (λ (z : ℤ). pos (n * n) *ℤ z) (sym (weighed_square w a))) (ap (λ (z : ℤ). pos (2 * n) *ℤ (pos w *ℤ (a *ℤ e)) +ℤ z) (sym (weighed_square w e)))

-- Their difference.
pub difference_share : (w : ℕ) (a e : ℤ) → pos (w * square (e -ℤ a)) +ℤ pos 2 *ℤ (pos w *ℤ (a *ℤ e)) ≡ pos (w * square a) +ℤ pos (w * square e)
difference_share w a e =
    ap (λ (z : ℤ). z +ℤ pos 2 *ℤ (pos w *ℤ (a *ℤ e))) (weighed_square w (e -ℤ a)) ∙ ring ∙ ap₂ ◌+ℤ◌ (sym (weighed_square w a)) (sym (weighed_square w e))
  where
    ring : pos w *ℤ ((e -ℤ a) *ℤ (e -ℤ a)) +ℤ pos 2 *ℤ (pos w *ℤ (a *ℤ e)) ≡ pos w *ℤ (a *ℤ a) +ℤ pos w *ℤ (e *ℤ e)
    ring = rw (← canon a, ← canon e) (simp Z_diff (omega arith))

-- So many times a deviation.
pub times_share : (c w : ℕ) (y : ℤ) → pos (w * square (pos c *ℤ y)) ≡ pos (c * c) *ℤ pos (w * square y)
times_share c w y = weighed_square w (pos c *ℤ y) ∙ ring ∙ ap (λ (z : ℤ). pos (c * c) *ℤ z) (sym (weighed_square w y))
  where
    ring : pos w *ℤ ((pos c *ℤ y) *ℤ (pos c *ℤ y)) ≡ pos (c * c) *ℤ (pos w *ℤ (y *ℤ y))
    ring = rw (← canon y) (simp Z_diff (omega arith))

-- The deviation of c times an amount, over c times the denominator, is c times its deviation.
pub times_from : (c d : ℕ) (x r : ℤ) → pos c *ℤ x -ℤ pos (c * d) *ℤ r ≡ pos c *ℤ (x -ℤ pos d *ℤ r)
times_from c d x r = rw (← canon x, ← canon r) (simp Z_diff (omega arith))

-- A mixture's deviation from the reading is the mixture of the deviations.
pub mixed_from : (n d : ℕ) (y z r : ℤ) → (pos n *ℤ y +ℤ z) -ℤ pos (suc n * d) *ℤ r ≡ pos n *ℤ (y -ℤ pos d *ℤ r) +ℤ (z -ℤ pos d *ℤ r)
mixed_from n d y z r = rw (← canon y, ← canon z, ← canon r) (simp Z_diff (omega arith))

-- Two amounts differ as their deviations do.
pub difference_from : (d : ℕ) (y z r : ℤ) → z -ℤ y ≡ (z -ℤ pos d *ℤ r) -ℤ (y -ℤ pos d *ℤ r)
difference_from d y z r = rw (← canon y, ← canon z, ← canon r) (simp Z_diff (omega arith))

-- The difference of two flows over d and e, stated over d times e, from the deviations.
pub cross_from : (d e : ℕ) (y z r : ℤ) → pos d *ℤ (z -ℤ pos e *ℤ r) ≡ pos e *ℤ (y -ℤ pos d *ℤ r) +ℤ (pos d *ℤ z -ℤ pos e *ℤ y)
cross_from d e y z r = rw (← canon y, ← canon z, ← canon r) (simp Z_diff (omega arith))
