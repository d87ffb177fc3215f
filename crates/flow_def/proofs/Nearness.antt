-- Groups have one potential, meters in a group show the value in range nearest to their readings, and no flow in fractions undercuts a
-- certified flow by much.
use mathlib.Core.Path.{◌≡◌, refl, sym, ◌∙◌, ap, ap₂}
use mathlib.Core.Bool.{Bool, true, false}
use mathlib.Core.List.{List}
use lib.IntN.{ℤ, pos, neg_ℤ, ◌+ℤ◌, ◌-ℤ◌, ◌*ℤ◌, zero-*ℤ}
use Prim.Native.Nat.{ℕ, zero, suc, ◌+◌, ◌*◌, ◌≤◌, ◌<◌}
use native.Mathlib.Nat.{le_antisymm, mul-le-mul_left}
use native.Mathlib.Omega.{arith}
use borrow.Author.Tests.{not-true}
use Rattle.num_bytes.specs.Choice.{pick}
use Rattle.plant_def.specs.declared.Stream.{Stream}
use Rattle.plant_def.specs.Plants.{Plant}
use Rattle.plant_def.specs.Within.{Within}
use Rattle.flow_def.specs.declared.Class.TheVariants.{Adjusted, AsRead, Given, Withheld}
use Rattle.flow_def.specs.Flows.{stream_at, amount_at, balanced, allowed_over, square, cost, cost_over, Cheapest, nearest}
use Rattle.flow_def.specs.Classes.{one_group, on_loop, class_of}
use Rattle.flow_def.specs.Chains.{unmetered_only, Chain, stop, along, back}
use Rattle.flow_def.specs.Shown.{adjusted_weight, adjusted_to, adjusted}
use Rattle.flow_def.specs.Certificate.{weight_of, climb}
use Rattle.num_bytes.proofs.Integers.{Le, val, same, canon, Z_diff, plus_val, minus_val, minus_none, none_minus}
use Rattle.num_bytes.proofs.Sums.{sum, sum_plus, sum_times, sum_le}
use Rattle.flow_def.proofs.Reach.{joined→chain}
use Rattle.flow_def.proofs.Nets.{count_of, stream_of, balanced_size}
use Rattle.flow_def.proofs.Given.{class_means}
use Rattle.flow_def.proofs.Steps.{Step, Free, Tied, level, above, below, fraction, flat_high, flat_low, flat, free}
use Rattle.flow_def.proofs.Ranges.{balanced_of, range_of, unmetered_moves, free_over, nearest_is}
use Rattle.flow_def.proofs.Potentials.{StepAt, Steps, Certificate, share, share_over, cost_is, cost_one, gain_is, gain_one, least, ties}

-- An unmetered stream has one potential at both ends; so has a group.
one_potential : (Δ : ℕ) (π : ℕ → ℤ) (s : Stream) (x : ℤ) → unmetered_only 0 s ≡ true → StepAt Δ π s x → π s.to ≡ π s.from
one_potential Δ π s x t h =
    let m = not-true s.metered t in
    minus_none (π s.to) (π s.from) (free Δ (weight_of s) (x -ℤ s.reading) (climb π s) _ _ (rw m) (unmetered_moves s x m) h)

-- Places that a chain of unmetered streams joins have one potential.
pub group_potential : (Δ : ℕ) (π : ℕ → ℤ) (ss : List Stream) (x : ℕ → ℤ) {u v : ℕ} → Steps Δ π ss x → Chain unmetered_only ss u v → π v ≡ π u
group_potential Δ π ss x h stop = refl
group_potential Δ π ss x h (along k l t c) = one_potential Δ π (stream_at ss k) (x k) t (h k l) ∙ group_potential Δ π ss x h c
group_potential Δ π ss x h (back k l t c) = sym (one_potential Δ π (stream_at ss k) (x k) t (h k l)) ∙ group_potential Δ π ss x h c

-- One stream against a flow in fractions. m: it is metered, g: its ends are in one group, o: it lies on a loop.
still : (a b m n : ℕ) (c d e : ℤ) → c ≡ pos 0 → a ≤ b → Le (pos a +ℤ pos m *ℤ (c *ℤ e)) (pos b +ℤ pos n *ℤ (c *ℤ d))
still a b m n c d e z h = rw (z, zero-*ℤ e, zero-*ℤ d) (omega arith)

stream_fraction : (D : ℕ) (s : Stream) (m g o : Bool) (d e c : ℤ) (a b : Bool)
    → (m ≡ true → 1 ≤ s.weight) → (m ≡ false → (a ≡ true) × (b ≡ true)) → (g ≡ true → c ≡ pos 0)
    → Step 1 (pick m s.weight 0) d c a b → Free a b (pos D *ℤ d) e
    → Le (pos (4 * (D * D) * (pick m s.weight 0 * square d)) +ℤ pos (4 * D) *ℤ (c *ℤ e))
    (pos (4 * (pick m s.weight 0 * square e) + D * D * adjusted_weight (pick m (pick g AsRead Adjusted) (pick o Withheld Given)) s)
    +ℤ pos (4 * (D * D)) *ℤ (c *ℤ d))
stream_fraction D s true false o d e c a b v u z h f = fraction D s.weight d e c a b h f
stream_fraction D s true true o d e c a b v u z h f =
    still _ _ (4 * D) (4 * (D * D)) c d e (z refl) (omega (arith, flat D s.weight d e c a b (v refl) (z refl) h f))
stream_fraction D s false g o d e c a b v u z h f = still _ _ (4 * D) (4 * (D * D)) c d e (free 1 0 d c a b refl (u refl) h) (omega arith)

-- A metered stream with one potential at both ends: no flow of equal cost moves it.
unmoved : (w : ℕ) (d e c : ℤ) (a b : Bool) → 1 ≤ w → c ≡ pos 0 → Step 1 w d c a b → Tied w d e c a b → e ≡ d
unmoved w d e c a b l z s (level q) = q
unmoved w d e c a b l z s (above q t h) =
    absurd (omega (arith, val c (pos 0) z, mul-le-mul_left w (flat_high w d c a b l z s t), simp Z_diff at (rw (← canon d, ← canon c) at h)))
unmoved w d e c a b l z s (below q t h) =
    absurd (omega (arith, val c (pos 0) z, mul-le-mul_left w (flat_low w d c a b l z s t), simp Z_diff at (rw (← canon d, ← canon c) at h)))

-- The adjusted weights as a sum, and what the potentials bring in over D.
adjusted_is : (p : Plant) (m : ℕ) → pos (adjusted_to p m) ≡ sum m (λ k. pos (adjusted_weight (class_of p k) (stream_of p k)))
adjusted_is p zero = refl
adjusted_is p (suc m) = ap (λ (z : ℤ). pos (adjusted_weight (class_of p m) (stream_of p m)) +ℤ z) (adjusted_is p m)

same_gain : (one D : ℕ) (R : ℤ) → one ≡ 1 → pos (4 * (D * D)) *ℤ (neg_ℤ (pos one) *ℤ R) ≡ pos (4 * D) *ℤ (neg_ℤ (pos D) *ℤ R)
same_gain one D R e = rw (← canon R) (simp Z_diff (rw e (omega arith)))

module _ (p : Plant) (w : Within p) (π : ℕ → ℤ) (xs : List ℤ) (c : Certificate p xs π) where
  level_potential : (u v : ℕ) → one_group p u v ≡ true → π v -ℤ π u ≡ pos 0
  level_potential u v e = none_minus (π v) (π u) (group_potential 1 π p.streams (amount_at xs) c.steps (joined→chain unmetered_only p u v e))

  -- No flow in fractions, within all ranges, undercuts a certified flow by more than a quarter of the adjusted streams' weights.
  pub near_certified : (ys : List ℤ) (D : ℕ) → allowed_over D p ys ≡ true
      → 4 * (D * D) * cost p.streams xs ≤ 4 * cost_over D p.streams ys + D * D * adjusted p
  near_certified ys D b =
      omega (
        arith,
        rw (left_sum, right_sum) at (sum_le n left right each),
        plus_val (pos (4 * (D * D) * cost p.streams xs)) kept,
        plus_val (pos (4 * cost_over D p.streams ys + D * D * adjusted p)) kept,
      )
    where
      n : ℕ
      n = count_of p

      s : ℕ → Stream
      s = stream_of p

      bx : balanced p xs ≡ true
      bx = balanced_of 1 p xs c.balance

      by : balanced p ys ≡ true
      by = balanced_of D p ys b

      left : ℕ → ℤ
      left k =
          pos (4 * (D * D) * share (s k) (amount_at xs k))
          +ℤ pos (4 * D) *ℤ (climb π (s k) *ℤ (amount_at ys k -ℤ pos D *ℤ (s k).reading))

      right : ℕ → ℤ
      right k =
          pos (4 * share_over D (s k) (amount_at ys k) + D * D * adjusted_weight (class_of p k) (s k))
          +ℤ pos (4 * (D * D)) *ℤ (climb π (s k) *ℤ (amount_at xs k -ℤ (s k).reading))

      each : (k : ℕ) → k < n → Le (left k) (right k)
      each k l =
          stream_fraction D (s k) (s k).metered (one_group p (s k).from (s k).to) (on_loop p k) _ _ (climb π (s k)) _ _
          (w.each k l).weighed (unmetered_moves (s k) (amount_at xs k)) (level_potential (s k).from (s k).to) (c.steps k l)
          (free_over D (s k) (amount_at xs k) (amount_at ys k) (range_of D p ys b k l))

      R : ℤ
      R = sum n (λ k. climb π (s k) *ℤ (s k).reading)

      kept : ℤ
      kept = pos (4 * D) *ℤ (neg_ℤ (pos D) *ℤ R)

      scaled : (a : ℕ) (f : ℕ → ℕ) (t : ℕ) → pos t ≡ sum n (λ k. pos (f k)) → sum n (λ k. pos (a * f k)) ≡ pos (a * t)
      scaled a f t e = sym (sum_times n (pos a) (λ k. pos (f k))) ∙ ap (λ (z : ℤ). pos a *ℤ z) (sym e)

      left_sum : sum n left ≡ pos (4 * (D * D) * cost p.streams xs) +ℤ kept
      left_sum =
          sum_plus n (λ k. pos (4 * (D * D) * share (s k) (amount_at xs k))) _
          ∙ ap₂ ◌+ℤ◌ (scaled (4 * (D * D)) _ _ (cost_one p.streams xs (balanced_size p xs bx)))
          (sym (sum_times n (pos (4 * D)) _) ∙ ap (λ (z : ℤ). pos (4 * D) *ℤ z) (gain_is p w π ys by (pos D)))

      right_sum : sum n right ≡ pos (4 * cost_over D p.streams ys + D * D * adjusted p) +ℤ kept
      right_sum =
          sum_plus n (λ k. pos (4 * share_over D (s k) (amount_at ys k) + D * D * adjusted_weight (class_of p k) (s k))) _
          ∙ ap₂ ◌+ℤ◌
          (sum_plus n (λ k. pos (4 * share_over D (s k) (amount_at ys k))) (λ k. pos (D * D * adjusted_weight (class_of p k) (s k)))
          ∙ ap₂ ◌+ℤ◌ (scaled 4 _ _ (cost_is D p.streams ys (balanced_size p ys by))) (scaled (D * D) _ _ (adjusted_is p n)))
          (sym (sum_times n (pos (4 * (D * D))) _) ∙ ap (λ (z : ℤ). pos (4 * (D * D)) *ℤ z) (gain_one p w π xs bx) ∙ same_gain 1 D R refl)

  -- Every cheapest flow costs what the certified one costs.
  pub same_cost : (zs : List ℤ) → Cheapest p zs → cost p.streams zs ≡ cost p.streams xs
  same_cost zs z = le_antisymm (z.least xs c.balance) (least p w π xs c zs z.balance)

  -- No flow in range, in fractions of any denominator, undercuts a cheapest flow by more than a quarter of the adjusted streams' weights.
  pub near : (zs ys : List ℤ) (D : ℕ) → Cheapest p zs → 1 ≤ D → allowed_over D p ys ≡ true
      → 4 * (D * D) * cost p.streams zs ≤ 4 * cost_over D p.streams ys + D * D * adjusted p
  near zs ys D z l b = rw (same_cost zs z) (near_certified ys D b)

  -- A meter whose ends are in one group shows the value in range nearest to its reading, in every cheapest flow.
  pub as_read : (zs : List ℤ) (i : ℕ) → Cheapest p zs → i < count_of p → class_of p i ≡ AsRead → amount_at zs i ≡ nearest (stream_of p i)
  as_read zs i z l e =
      same (amount_at zs i) x (omega (arith, val _ _ still_here, minus_val (amount_at zs i) s.reading, minus_val x s.reading))
      ∙ nearest_is s x (range_of 1 p xs c.balance i l)
      (λ t. omega (arith, minus_val x s.reading, flat_high (weight_of s) (x -ℤ s.reading) (climb π s) _ _ heavy flat_here (c.steps i l) t))
      (λ t. omega (arith, minus_val x s.reading, flat_low (weight_of s) (x -ℤ s.reading) (climb π s) _ _ heavy flat_here (c.steps i l) t))
    where
      s : Stream
      s = stream_of p i

      x : ℤ
      x = amount_at xs i

      known : (s.metered ≡ true) × (one_group p s.from s.to ≡ true)
      known = class_means p i AsRead e

      heavy : 1 ≤ weight_of s
      heavy = rw known.0 ((w.each i l).weighed known.0)

      flat_here : climb π s ≡ pos 0
      flat_here = level_potential s.from s.to known.1

      still_here : amount_at zs i -ℤ s.reading ≡ x -ℤ s.reading
      still_here =
          unmoved (weight_of s) (x -ℤ s.reading) (amount_at zs i -ℤ s.reading) (climb π s) _ _ heavy flat_here (c.steps i l)
          (ties p w π xs c zs z.balance (omega (arith, same_cost zs z)) i l heavy)
