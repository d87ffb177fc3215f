-- The step condition of one stream: what it says without a meter, at a tie, of the size of its amount, and of the request's bounds.
use mathlib.Core.Path.{◌≡◌, sym, ap, subst}
use mathlib.Core.Logic.{◌⊎◌, inl, inr, ⊎_elim}
use mathlib.Core.Bool.{Bool, true, false}
use lib.IntN.{ℤ, pos, ◌+ℤ◌, ◌-ℤ◌, ◌*ℤ◌, zero-*ℤ}
use lib.Signed.{le_z}
use Prim.Native.Nat.{ℕ, suc, ◌+◌, ◌*◌, ◌≤◌, ◌<◌}
use native.Mathlib.Nat.{mul-le-mul_left}
use native.Mathlib.Omega.{arith}
use Rattle.num_bytes.proofs.Tests.{by_cases}
use Rattle.plant_def.specs.declared.Stream.{Stream}
use Rattle.plant_def.specs.Limits.{max_range}
use Rattle.plant_def.specs.Plants.{limited}
use Rattle.plant_def.specs.Within.{WithinStream}
use Rattle.flow_def.specs.Flows.{in_range}
use Rattle.flow_def.specs.Certificate.{weight_of, climb, lower, upper, least_climb, most_climb, rises, falls}
use Rattle.num_bytes.proofs.Integers.{up, dn, Le, Lt, val, canon, Z_diff, minus_val, size_val, le_z_le, le_le_z, lt_z_lt}
use Rattle.flow_def.proofs.Ranges.{asked, whole_says, at_low, at_high, unmetered_moves}
use Rattle.flow_def.proofs.Steps.{Step, Tied, level, above, below, free}
use Rattle.flow_def.proofs.Potentials.{StepAt}
use Rattle.solve_def.proofs.Tall.{Slopes}
use Rattle.solve_def.proofs.Bounds.{weight_none}
use Rattle.foreign_def.specs.Passing.{bottom, top, AtHigh, AtLow}

-- The bounds over naturals.
low_parts : (w : ℕ) (d c : ℤ) → Le (lower 1 w d) c → dn c + w * (2 * up d) ≤ w * (2 * dn d + 1) + up c
low_parts w d c h = omega (arith, simp Z_diff at (rw (← canon d, ← canon c) at h))

high_parts : (w : ℕ) (d c : ℤ) → Le c (upper 1 w d) → up c + w * (2 * dn d) ≤ w * (2 * up d + 1) + dn c
high_parts w d c h = omega (arith, simp Z_diff at (rw (← canon d, ← canon c) at h))

-- Without weight the condition asks for no difference, and does not look at the amount.
still : (w : ℕ) (d c : ℤ) (a b : Bool) → w ≡ 0 → c ≡ pos 0 → Step 1 w d c a b
still w d c a b z e = record {
  low = λ t. rw (z, e, zero-*ℤ (pos 2 *ℤ d -ℤ pos 1)) (omega arith);
  high = λ t. rw (z, e, zero-*ℤ (pos 2 *ℤ d +ℤ pos 1)) (omega arith);
}

module _ (π : ℕ → ℤ) (s : Stream) (m : s.metered ≡ false) where
  -- A stream without a meter has equal numbers at its ends.
  pub step_level : (x : ℤ) → StepAt 1 π s x → climb π s ≡ pos 0
  step_level x h = free 1 (weight_of s) (x -ℤ s.reading) (climb π s) (falls s x) (rises s x) (weight_none s m) (unmetered_moves s x m) h

  -- Equal numbers meet the step condition of such a stream.
  pub level_step : (x : ℤ) → climb π s ≡ pos 0 → StepAt 1 π s x
  level_step x e = still (weight_of s) (x -ℤ s.reading) (climb π s) (falls s x) (rises s x) (weight_none s m) e

-- Potentials that climb alike meet it alike.
pub step_alike : (π ρ : ℕ → ℤ) (s : Stream) (x : ℤ) → climb π s ≡ climb ρ s → StepAt 1 ρ s x → StepAt 1 π s x
step_alike π ρ s x e h = subst (λ (c : ℤ). Step 1 (weight_of s) (x -ℤ s.reading) c (falls s x) (rises s x)) (sym e) h

-- The condition passes to a deviation of no more cost.
up_one : (w : ℕ) (d : ℤ) → lower 1 w (d +ℤ pos 1) ≡ upper 1 w d
up_one w d = rw (← canon d) (simp Z_diff (omega arith))

down_one : (w : ℕ) (d : ℤ) → upper 1 w (d -ℤ pos 1) ≡ lower 1 w d
down_one w d = rw (← canon d) (simp Z_diff (omega arith))

in_order : (w : ℕ) (d : ℤ) → Le (lower 1 w d) (upper 1 w d)
in_order w d = rw (← canon d) (simp Z_diff (omega arith))

-- A tie keeps the step condition.
pub tied_step : (w : ℕ) (d e c : ℤ) (a b a' b' : Bool) → Step 1 w d c a b → Tied w d e c a b → (e ≡ d → Step 1 w e c a' b') → Step 1 w e c a' b'
tied_step w d e c a b a' b' s (level q) f = f q
tied_step w d e c a b a' b' s (above q m t) f = rw q (record {
  low = λ k. omega (arith, s.high m, val _ _ (up_one w d));
  high = λ k. omega (arith, s.high m, val _ _ (up_one w d), in_order w (d +ℤ pos 1));
})
tied_step w d e c a b a' b' s (below q m t) f = rw q (record {
  low = λ k. omega (arith, s.low m, val _ _ (down_one w d), in_order w (d -ℤ pos 1));
  high = λ k. omega (arith, s.low m, val _ _ (down_one w d));
})

-- The request's words for a metered stream.
module _ (π : ℕ → ℤ) (s : Stream) (x : ℤ) (m : s.metered ≡ true) where
  weighed : weight_of s ≡ s.weight
  weighed = rw m

  bottom_is : least_climb s x ≡ bottom s x
  bottom_is = ap (λ (v : ℕ). lower 1 v (x -ℤ s.reading)) weighed

  top_is : most_climb s x ≡ top s x
  top_is = ap (λ (v : ℕ). upper 1 v (x -ℤ s.reading)) weighed

  low_end : AtLow s x → falls s x ≡ true → ⊥
  low_end e t = omega (arith, lt_z_lt s.low x (asked (limited s) _ t e.0), val x s.low e.1)

  high_end : AtHigh s x → rises s x ≡ true → ⊥
  high_end e t = omega (arith, lt_z_lt x s.high (asked (limited s) _ t e.0), val x s.high e.1)

  -- A climb between bottom and top, but where it is excused, meets the step condition.
  pub between_step : AtLow s x ⊎ (le_z (bottom s x) (climb π s) ≡ true) → AtHigh s x ⊎ (le_z (climb π s) (top s x) ≡ true) → StepAt 1 π s x
  between_step lo hi = record {
    low = λ t. ⊎_elim (λ e. absurd (low_end e t)) (λ (e : le_z (bottom s x) (climb π s) ≡ true). rw bottom_is (le_z_le (bottom s x) (climb π s) e)) lo;
    high = λ t. ⊎_elim (λ e. absurd (high_end e t)) (λ (e : le_z (climb π s) (top s x) ≡ true). rw top_is (le_z_le (climb π s) (top s x) e)) hi;
  }

  module _ (i : in_range 1 s x ≡ true) (h : StepAt 1 π s x) where
    -- The step condition gives the bottom, unless the flow is at its low end.
    pub step_bottom : AtLow s x ⊎ (le_z (bottom s x) (climb π s) ≡ true)
    step_bottom = by_cases (falls s x) (λ t. inr (rw (← bottom_is) (le_le_z (least_climb s x) (climb π s) (h.low t)))) (λ t. inl (at_low s x i t))

    -- It gives the top, unless the flow is at its high end.
    pub step_top : AtHigh s x ⊎ (le_z (climb π s) (top s x) ≡ true)
    step_top = by_cases (rises s x) (λ t. inr (rw (← top_is) (le_le_z (climb π s) (most_climb s x) (h.high t)))) (λ t. inl (at_high s x i t))

-- Above the greatest end of a range a metered stream runs uphill, below the least downhill.
steep : (w a b c e : ℕ) → 1 ≤ w → suc b ≤ a → e + w * (2 * a) ≤ w * (2 * b + 1) + c → e < c
steep w a b c e l h k =
    let more : 2 * b + 2 ≤ 2 * a = omega arith in
    omega (arith, mul-le-mul_left w more)

module _ (n : ℕ) (π : ℕ → ℤ) (s : Stream) (x : ℤ) (r : WithinStream n s) (m : s.metered ≡ true) (i : in_range 1 s x ≡ true) (h : StepAt 1 π s x) where
  some_weight : 1 ≤ weight_of s
  some_weight = rw m (r.weighed m)

  uphill : max_range + dn x < up x → Lt (pos 0) (climb π s)
  uphill l = by_cases (limited s)
      (λ t. absurd (omega (arith, whole_says s x i t, r.high_in t, size_val s.high)))
      (λ t. let k = low_parts (weight_of s) (x -ℤ s.reading) (climb π s) (h.low (rw t)) in
      omega (
        arith,
        steep (weight_of s) (up (x -ℤ s.reading)) (dn (x -ℤ s.reading)) (up (climb π s)) (dn (climb π s)) some_weight
            (omega (arith, minus_val x s.reading, r.within_range m, size_val s.reading)) k,
      ))

  downhill : max_range + up x < dn x → Lt (climb π s) (pos 0)
  downhill l = by_cases (limited s)
      (λ t. absurd (omega (arith, whole_says s x i t, r.low_in t, size_val s.low)))
      (λ t. let k = high_parts (weight_of s) (x -ℤ s.reading) (climb π s) (h.high (rw t)) in
      omega (
        arith,
        steep (weight_of s) (dn (x -ℤ s.reading)) (up (x -ℤ s.reading)) (dn (climb π s)) (up (climb π s)) some_weight
            (omega (arith, minus_val x s.reading, r.within_range m, size_val s.reading)) k,
      ))

  -- How a stream far from its range runs.
  pub step_slopes : Slopes max_range x (climb π s)
  step_slopes = record { runs_up = uphill; runs_down = downhill }
