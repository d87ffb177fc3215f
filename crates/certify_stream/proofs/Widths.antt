-- Bounds of wide numbers in 64 bits, by quotients.
use mathlib.Core.Path.{◌≡◌, refl, ap, ap₂, ◌∙◌, sym}
use mathlib.Core.Bool.{Bool, true, false, not, false≢true}
use lib.IntN.{ℤ, pos, negsuc, neg_ℤ, nat_abs, ◌+ℤ◌, ◌-ℤ◌, ◌*ℤ◌}
use lib.Signed.{le_z, lt_z}
use Prim.Native.Nat.{ℕ, suc, ◌-◌, ◌*◌, ◌/◌, ◌^◌, ◌≤◌, zero-le}
use native.Mathlib.Nat.{le-div_iff_mul-le}
use native.Mathlib.Omega.{arith}
use lib.Dec.{leb}
use mir.Syntax.{w64}
use mir.Val.{SFits, to_z, of_z}
use mir.ValLaws.{to_z-of_z}
use mir.Facts.{to_z_pos}
use borrow.Author.Tests.{leb-true, leb-false, le-leb, ltb-true}
use Rattle.num_bytes.specs.Choice.{pick}
use Rattle.num_bytes.proofs.Integers.{up, dn, Le, Lt, canon, Z_diff, product, plus_size, le_le_z, le_z_le}
use Rattle.num_bytes.proofs.Tests.{same_test, by_cases}
use Rattle.sheet_cost.proofs.Costing.{size_fits, minus_size}
use Rattle.plant_def.specs.declared.Stream.{Stream}
use Rattle.flow_def.specs.Certificate.{weight_of, lower, upper}
use Rattle.foreign_stream.proofs.Fitting.{coded_is}
use Rattle.certify_def.specs.Number.{max_wide_weight, max_wide_flow}

-- A product at most n, by a quotient.
pub by_quotient : (m by n : ℕ) → 1 ≤ by → leb m (n / by) ≡ leb (m * by) n
by_quotient m by n h =
    same_test _ _
    (λ t. le-leb (m * by) n ((le-div_iff_mul-le h).0 (leb-true m (n / by) t)))
    (λ t. le-leb m (n / by) ((le-div_iff_mul-le h).1 (leb-true (m * by) n t)))

-- z is d, by times.
pub record Scaled (by : ℕ) (d z : ℤ) : Type 0 where
  pub over : up z ≡ by * up d
  pub under : dn z ≡ by * dn d

scaled : (by : ℕ) (d : ℤ) → Scaled by d (pos by *ℤ d)
scaled by d = record { over = omega (arith, (product by d).0); under = omega (arith, (product by d).1) }

exceeds : (x y : ℤ) → Lt y x → le_z x y ≡ false
exceeds x y h = by_cases (le_z x y) (λ t. absurd (omega (arith, le_z_le x y t))) (λ t. t)

-- Whether z is at most a, by the signs of d and a.
not_below : (by : ℕ) (d a z : ℤ) → Scaled by d z → le_z (pos 0) d ≡ true → lt_z a (pos 0) ≡ true → false ≡ le_z z a
not_below by (pos m) (pos b) z s t u = absurd (omega (arith, ltb-true b 0 u))
not_below by (pos m) (negsuc b) z s t u = sym (exceeds z (negsuc b) (omega (arith, s.over, s.under)))
not_below by (negsuc m) a z s t u = absurd (false≢true t)

by_sizes : (by : ℕ) (d a z : ℤ) → Scaled by d z → le_z (pos 0) d ≡ true → lt_z a (pos 0) ≡ false → leb (nat_abs d * by) (nat_abs a) ≡ le_z z a
by_sizes by (pos m) (pos b) z s t u =
    same_test _ _
    (λ q. le_le_z z (pos b) (omega (arith, s.over, s.under, leb-true (m * by) b q)))
    (λ q. le-leb (m * by) b (omega (arith, s.over, s.under, le_z_le z (pos b) q)))
by_sizes by (pos m) (negsuc b) z s t u = absurd (false≢true (sym u))
by_sizes by (negsuc m) a z s t u = absurd (false≢true t)

below : (by : ℕ) (d a z : ℤ) → Scaled by d z → le_z (pos 0) d ≡ false → le_z (pos 0) a ≡ true → true ≡ le_z z a
below by (pos m) a z s t u = absurd (false≢true (sym t ∙ le-leb 0 m zero-le))
below by (negsuc m) (pos b) z s t u = sym (le_le_z z (pos b) (omega (arith, s.over, s.under)))
below by (negsuc m) (negsuc b) z s t u = absurd (false≢true u)

turned : (m n b : ℕ) (z : ℤ) → n ≡ b → up z ≡ 0 → dn z ≡ m → not (leb m n) ≡ le_z z (negsuc b)
turned m n b z e o u = by_cases (leb m n)
    (λ q. ap not q ∙ sym (exceeds z (negsuc b) (omega (arith, leb-true m n q))))
    (λ q. ap not q ∙ sym (le_le_z z (negsuc b) (omega (arith, leb-false m n q))))

by_turned : (by : ℕ) (d a z : ℤ) → Scaled by d z → le_z (pos 0) d ≡ false → le_z (pos 0) a ≡ false → not (leb (nat_abs d * by) (nat_abs a - 1)) ≡ le_z z a
by_turned by (pos m) a z s t u = absurd (false≢true (sym t ∙ le-leb 0 m zero-le))
by_turned by (negsuc m) (pos b) z s t u = absurd (false≢true (sym u ∙ le-leb 0 b zero-le))
by_turned by (negsuc m) (negsuc b) z s t u = turned (suc m * by) (suc b - 1) b z (omega arith) (omega (arith, s.over)) (omega (arith, s.under))

module _ (by : ℕ) (d a : ℤ) where
  -- What is not below zero, times more, is above what is;
  pub up_over_down : le_z (pos 0) d ≡ true → lt_z a (pos 0) ≡ true → false ≡ le_z (pos by *ℤ d) a
  up_over_down = not_below by d a _ (scaled by d)

  -- what is below zero is at most what is not.
  pub down_under_up : le_z (pos 0) d ≡ false → le_z (pos 0) a ≡ true → true ≡ le_z (pos by *ℤ d) a
  down_under_up = below by d a _ (scaled by d)

  module _ (m n : ℕ) (em : m ≡ nat_abs d) (en : n ≡ nat_abs a) (r : Bool) where
    -- Both not below zero, the sizes decide;
    pub up_by_sizes : r ≡ leb (m * by) n → le_z (pos 0) d ≡ true → lt_z a (pos 0) ≡ false → r ≡ le_z (pos by *ℤ d) a
    up_by_sizes e t u = e ∙ ap₂ (λ (x y : ℕ). leb (x * by) y) em en ∙ by_sizes by d a _ (scaled by d) t u

    -- both below zero, they decide the other way round.
    pub down_by_sizes : r ≡ leb (m * by) (n - 1) → le_z (pos 0) d ≡ false → le_z (pos 0) a ≡ false → not r ≡ le_z (pos by *ℤ d) a
    down_by_sizes e t u = ap not (e ∙ ap₂ (λ (x y : ℕ). leb (x * by) (y - 1)) em en) ∙ by_turned by d a _ (scaled by d) t u

-- The lower bound is at most the difference where twice the weight times d is at most the difference and one weight more;
pub lower_by : (w : ℕ) (d t : ℤ) → le_z (pos (2 * w) *ℤ d) (t +ℤ pos w) ≡ le_z (lower 1 w d) t
lower_by w d t = same_test _ _
    (λ q. le_le_z (lower 1 w d) t (moved (le_z_le (pos (2 * w) *ℤ d) (t +ℤ pos w) q)))
    (λ q. le_le_z (pos (2 * w) *ℤ d) (t +ℤ pos w) (back (le_z_le (lower 1 w d) t q)))
  where
    moved : Le (pos (2 * w) *ℤ d) (t +ℤ pos w) → Le (lower 1 w d) t
    moved h = rw (← canon d, ← canon t) (simp Z_diff (omega (arith, simp Z_diff at (rw (← canon d, ← canon t) at h))))

    back : Le (lower 1 w d) t → Le (pos (2 * w) *ℤ d) (t +ℤ pos w)
    back h = rw (← canon d, ← canon t) (simp Z_diff (omega (arith, simp Z_diff at (rw (← canon d, ← canon t) at h))))

-- the difference at most the upper one where minus d, so many times, is at most one weight less the difference.
pub upper_by : (w : ℕ) (d t : ℤ) → le_z (pos (2 * w) *ℤ (pos 0 -ℤ d)) (pos w -ℤ t) ≡ le_z t (upper 1 w d)
upper_by w d t = same_test _ _
    (λ q. le_le_z t (upper 1 w d) (moved (le_z_le (pos (2 * w) *ℤ (pos 0 -ℤ d)) (pos w -ℤ t) q)))
    (λ q. le_le_z (pos (2 * w) *ℤ (pos 0 -ℤ d)) (pos w -ℤ t) (back (le_z_le t (upper 1 w d) q)))
  where
    moved : Le (pos (2 * w) *ℤ (pos 0 -ℤ d)) (pos w -ℤ t) → Le t (upper 1 w d)
    moved h = rw (← canon d, ← canon t) (simp Z_diff (omega (arith, simp Z_diff at (rw (← canon d, ← canon t) at h))))

    back : Le t (upper 1 w d) → Le (pos (2 * w) *ℤ (pos 0 -ℤ d)) (pos w -ℤ t)
    back h = rw (← canon d, ← canon t) (simp Z_diff (omega (arith, simp Z_diff at (rw (← canon d, ← canon t) at h))))

-- One weight more than the difference of two numbers, and one weight less it, in 64 bits.
module _ (w : ℕ) (t : ℤ) (light : w ≤ max_wide_weight) (f : SFits w64 t) (h : nat_abs t ≤ 2 ^ 62) where
  weight_is : to_z w64 w ≡ pos w
  weight_is = to_z_pos w64 (omega arith)

  sum_small : SFits w64 (t +ℤ pos w)
  sum_small = size_fits (t +ℤ pos w) (omega (arith, plus_size t (pos w)))

  rest_small : SFits w64 (pos w -ℤ t)
  rest_small = size_fits (pos w -ℤ t) (omega (arith, minus_size (pos w) t))

  -- The sum is read back from its bits;
  pub sum_is : to_z w64 (of_z w64 (to_z w64 (of_z w64 t) +ℤ to_z w64 w)) ≡ t +ℤ pos w
  sum_is = rw (to_z-of_z w64 t f, weight_is) (to_z-of_z w64 (t +ℤ pos w) sum_small)

  -- so is the rest.
  pub rest_is : to_z w64 (of_z w64 (to_z w64 w -ℤ to_z w64 (of_z w64 t))) ≡ pos w -ℤ t
  rest_is = rw (to_z-of_z w64 t f, weight_is) (to_z-of_z w64 (pos w -ℤ t) rest_small)

-- A flow less its reading, turned round.
module _ (d : ℤ) (f : SFits w64 d) (h : nat_abs d ≤ 2 ^ 56) where
  turned_small : SFits w64 (pos 0 -ℤ d)
  turned_small = size_fits (pos 0 -ℤ d) (omega (arith, minus_size (pos 0) d))

  -- It is read back from its bits.
  pub turned_is : to_z w64 (of_z w64 (pos 0 -ℤ to_z w64 (of_z w64 d))) ≡ pos 0 -ℤ d
  turned_is = rw (to_z-of_z w64 d f) (to_z-of_z w64 (pos 0 -ℤ d) turned_small)

-- A test of a metered stream's bound, by the weight and the correction that the code holds, is that of the stream's own.
pub climb_held : (test : ℕ → ℤ → ℤ → Bool) (s : Stream) (x d t : ℤ) (r : Bool) → SFits w64 x → SFits w64 s.reading → SFits w64 d → SFits w64 t
    → s.metered ≡ true → d ≡ to_z w64 (of_z w64 x) -ℤ to_z w64 (of_z w64 s.reading) → r ≡ test s.weight (to_z w64 (of_z w64 d)) (to_z w64 (of_z w64 t))
    → r ≡ test (weight_of s) (x -ℤ s.reading) t
climb_held test s x d t r fx fr fd ft m e q =
    q
    ∙ ap₂ (test s.weight) (to_z-of_z w64 d fd ∙ e ∙ ap₂ ◌-ℤ◌ (to_z-of_z w64 x fx) (to_z-of_z w64 s.reading fr)) (to_z-of_z w64 t ft)
    ∙ ap (λ (b : Bool). test (pick b s.weight 0) (x -ℤ s.reading) t) (sym m)

-- A number at one end, if it is there, less another, if it is there.
picked_size : (b : Bool) (x : ℤ) → nat_abs (pick b x (pos 0)) ≤ nat_abs x
picked_size true x = omega arith
picked_size false x = omega arith

minus_picked : (a : ℤ) (b : Bool) (x : ℤ) → a -ℤ pick b x (pos 0) ≡ a +ℤ pick b (neg_ℤ x) (pos 0)
minus_picked a true x = refl
minus_picked a false x = refl

module _ (a b : Bool) (x i o : ℤ) (h : nat_abs x ≤ max_wide_flow) (fi : SFits w64 i) (fo : SFits w64 o) (ei : i ≡ pick a x (pos 0)) (eo : o ≡ pick b x (pos 0)) where
  small_ends : nat_abs (i -ℤ o) ≤ 2 * max_wide_flow
  small_ends = rw (ei, eo) (omega (arith, minus_size (pick a x (pos 0)) (pick b x (pos 0)), picked_size a x, picked_size b x))

  ends_apart : SFits w64 (i -ℤ o)
  ends_apart = size_fits (i -ℤ o) (omega (arith, small_ends))

  -- The difference is what the stream brings, and small.
  pub ends_is : (to_z w64 (of_z w64 (to_z w64 (of_z w64 i) -ℤ to_z w64 (of_z w64 o))) ≡ pick a x (pos 0) +ℤ pick b (neg_ℤ x) (pos 0))
      × (nat_abs (to_z w64 (of_z w64 (to_z w64 (of_z w64 i) -ℤ to_z w64 (of_z w64 o)))) ≤ 2 * max_wide_flow)
  ends_is =
      let e = coded_is i o fi fo ends_apart in
      (e ∙ ap₂ ◌-ℤ◌ ei eo ∙ minus_picked (pick a x (pos 0)) b x, rw e small_ends)
