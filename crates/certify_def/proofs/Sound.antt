-- Numbers of the places that certify a flow, whatever the weights: it has least cost, and no flow in fractions undercuts it by much.
use mathlib.Core.Path.{◌≡◌, refl, sym, ◌∙◌, ap, ap₂}
use mathlib.Core.Bool.{true}
use mathlib.Core.List.{List}
use lib.IntN.{ℤ, pos, neg_ℤ, nat_abs, ◌+ℤ◌, ◌-ℤ◌, ◌*ℤ◌, +ℤ_idl, *ℤ-zero}
use Prim.Native.Nat.{ℕ, zero, suc, ◌+◌, ◌*◌, ◌≤◌, ◌<◌}
use native.Mathlib.Omega.{arith}
use native.Mathlib.Decide.{ℕ_discrete}
use borrow.Author.Tests.{eqb-true}
use lib.Dec.{eqb}
use lib.ListN.{length}
use Rattle.num_bytes.proofs.Tests.{and_left, and_right}
use Rattle.num_bytes.proofs.Integers.{Le, canon, Z_diff, plus_val, one_times, size_none}
use Rattle.num_bytes.proofs.Sums.{sum, sum_same, sum_none, sum_plus, sum_times, sum_le, sum_only}
use Rattle.plant_def.specs.declared.Stream.{Stream}
use Rattle.plant_def.specs.Plants.{Plant}
use Rattle.flow_def.specs.Flows.{stream_at, amount_at, net_at, balanced_to, balanced, allowed, allowed_over, cost, cost_over}
use Rattle.flow_def.specs.Nets.{net_of}
use Rattle.flow_def.specs.Certificate.{weight_of, climb}
use Rattle.flow_def.proofs.Reach.{Inside}
use Rattle.flow_def.proofs.Nets.{count_of, stream_of, balanced_size, net_is, nets_sum, by_parts}
use Rattle.flow_def.proofs.Steps.{whole, fraction}
use Rattle.flow_def.proofs.Ranges.{balanced_of, range_of, free_whole, free_over}
use Rattle.flow_def.proofs.Potentials.{Certificate, share, share_over, cost_is, cost_one}
use Rattle.certify_def.specs.Says.{weights_to, Vouched}

-- The units of a balanced flow have nets of 0.
units_level : (n : ℕ) (ss : List Stream) (xs : List ℤ) → balanced_to n ss xs ≡ true → (u : ℕ) → u < n → net_at (suc u) ss xs ≡ pos 0
units_level zero ss xs b u l = absurd (omega arith)
units_level (suc n) ss xs b u l = elim (ℕ_discrete u n) [
  | yes q ↦ rw q (size_none (net_at (suc n) ss xs) (eqb-true _ 0 (and_left (eqb (nat_abs (net_at (suc n) ss xs)) 0) (balanced_to n ss xs) b)))
  | no q ↦ units_level n ss xs (and_right (eqb (nat_abs (net_at (suc n) ss xs)) 0) (balanced_to n ss xs) b) u (omega arith)
]

-- The weights as a sum.
weights_is : (ss : List Stream) (m : ℕ) → pos (weights_to ss m) ≡ sum m (λ k. pos (weight_of (stream_at ss k)))
weights_is ss zero = refl
weights_is ss (suc m) = ap (λ (z : ℤ). pos (weight_of (stream_at ss m)) +ℤ z) (weights_is ss m)

term : (c y D r : ℤ) → c *ℤ (y -ℤ D *ℤ r) ≡ c *ℤ y +ℤ neg_ℤ D *ℤ (c *ℤ r)
term c y D r = rw (← canon c, ← canon y, ← canon D, ← canon r) (simp Z_diff (omega arith))

same_gain : (one D : ℕ) (R : ℤ) → one ≡ 1 → pos (4 * (D * D)) *ℤ (neg_ℤ (pos one) *ℤ R) ≡ pos (4 * D) *ℤ (neg_ℤ (pos D) *ℤ R)
same_gain one D R e = rw (← canon R) (simp Z_diff (rw e (omega arith)))

module _ (p : Plant) (w : Inside p.units p.streams) (π : ℕ → ℤ) where
  abbrev n : ℕ
  n = count_of p

  abbrev s : ℕ → Stream
  s = stream_of p

  abbrev R : ℤ
  R = sum (count_of p) (λ k. climb π (stream_of p k) *ℤ (stream_of p k).reading)

  module _ (ys : List ℤ) (b : balanced p ys ≡ true) where
    abbrev net : ℕ → ℤ
    net u = net_of p.streams (amount_at ys) u

    inner : (u : ℕ) → u < p.units → net (suc u) ≡ pos 0
    inner u l =
        sym (net_is (suc u) p.streams ys (balanced_size p ys b))
        ∙ units_level p.units p.streams ys (and_right (eqb (length ys) (count_of p)) (balanced_to p.units p.streams ys) b) u l

    others : (u : ℕ) → u < suc p.units → (u ≡ 0 → ⊥) → net u ≡ pos 0
    others zero l q = absurd (q refl)
    others (suc u) l q = inner u (omega arith)

    nets : (u : ℕ) → u ≤ p.units → net u ≡ pos 0
    nets zero l = sym (sum_only (suc p.units) 0 net (omega arith) others) ∙ nets_sum p.units p.streams (amount_at ys) w
    nets (suc u) l = inner u l

    no_gain : sum (count_of p) (λ k. climb π (stream_of p k) *ℤ amount_at ys k) ≡ pos 0
    no_gain =
        sym (by_parts p.units π p.streams (amount_at ys) w)
        ∙ sum_none (suc p.units) _ (λ u l. ap (λ (z : ℤ). π u *ℤ z) (nets u (omega arith)) ∙ *ℤ-zero (π u))

    gain_is : (D : ℤ) → sum (count_of p) (λ k. climb π (stream_of p k) *ℤ (amount_at ys k -ℤ D *ℤ (stream_of p k).reading)) ≡ neg_ℤ D *ℤ R
    gain_is D =
        sum_same n _ (λ k. climb π (s k) *ℤ amount_at ys k +ℤ neg_ℤ D *ℤ (climb π (s k) *ℤ (s k).reading))
        (λ k l. term (climb π (s k)) (amount_at ys k) D (s k).reading)
        ∙ sum_plus n (λ k. climb π (s k) *ℤ amount_at ys k) (λ k. neg_ℤ D *ℤ (climb π (s k) *ℤ (s k).reading))
        ∙ ap₂ ◌+ℤ◌ no_gain (sym (sum_times n (neg_ℤ D) (λ k. climb π (s k) *ℤ (s k).reading)))
        ∙ +ℤ_idl _

    gain_one : sum (count_of p) (λ k. climb π (stream_of p k) *ℤ (amount_at ys k -ℤ (stream_of p k).reading)) ≡ neg_ℤ (pos 1) *ℤ R
    gain_one =
        sum_same n _ _ (λ k l. ap (λ (r : ℤ). climb π (s k) *ℤ (amount_at ys k -ℤ r)) (sym (one_times (s k).reading)))
        ∙ gain_is (pos 1)

  -- One side of the comparison: the cost of xs, and what ys gains from the numbers.
  abbrev mixed : List ℤ → List ℤ → ℕ → ℤ
  mixed xs ys k = pos (share (s k) (amount_at xs k)) +ℤ climb π (s k) *ℤ (amount_at ys k -ℤ (s k).reading)

  mixed_sum : (xs ys : List ℤ) → balanced p xs ≡ true → balanced p ys ≡ true
      → sum n (mixed xs ys) ≡ pos (cost p.streams xs) +ℤ neg_ℤ (pos 1) *ℤ R
  mixed_sum xs ys a b =
      sum_plus n (λ k. pos (share (s k) (amount_at xs k))) _
      ∙ ap₂ ◌+ℤ◌ (sym (cost_one p.streams xs (balanced_size p xs a))) (gain_one ys b)

  module _ (xs : List ℤ) (c : Certificate p xs π) (ys : List ℤ) where
    -- A certified flow has least cost among whole flows in range.
    least : allowed p ys ≡ true → cost p.streams xs ≤ cost p.streams ys
    least b =
        omega (
          arith,
          rw (mixed_sum xs ys bx by, mixed_sum ys xs by bx) at (sum_le n (mixed xs ys) (mixed ys xs) each),
          plus_val (pos (cost p.streams xs)) (neg_ℤ (pos 1) *ℤ R),
          plus_val (pos (cost p.streams ys)) (neg_ℤ (pos 1) *ℤ R),
        )
      where
        bx : balanced p xs ≡ true
        bx = balanced_of 1 p xs c.balance

        by : balanced p ys ≡ true
        by = balanced_of 1 p ys b

        each : (k : ℕ) → k < n → Le (mixed xs ys k) (mixed ys xs k)
        each k l =
            whole (weight_of (s k)) _ _ (climb π (s k)) _ _ (c.steps k l) (free_whole (s k) (amount_at xs k) (amount_at ys k) (range_of 1 p ys b k l))

    -- No flow in fractions, within all ranges, undercuts it by more than a quarter of the summed weights.
    near : (D : ℕ) → allowed_over D p ys ≡ true
        → 4 * (D * D) * cost p.streams xs ≤ 4 * cost_over D p.streams ys + D * D * weights_to p.streams n
    near D b =
        omega (
          arith,
          rw (left_sum, right_sum) at (sum_le n left right each),
          plus_val (pos (4 * (D * D) * cost p.streams xs)) kept,
          plus_val (pos (4 * cost_over D p.streams ys + D * D * weights_to p.streams n)) kept,
        )
      where
        bx : balanced p xs ≡ true
        bx = balanced_of 1 p xs c.balance

        by : balanced p ys ≡ true
        by = balanced_of D p ys b

        left : ℕ → ℤ
        left k =
            pos (4 * (D * D) * share (s k) (amount_at xs k))
            +ℤ pos (4 * D) *ℤ (climb π (s k) *ℤ (amount_at ys k -ℤ pos D *ℤ (s k).reading))

        right : ℕ → ℤ
        right k =
            pos (4 * share_over D (s k) (amount_at ys k) + D * D * weight_of (s k))
            +ℤ pos (4 * (D * D)) *ℤ (climb π (s k) *ℤ (amount_at xs k -ℤ (s k).reading))

        each : (k : ℕ) → k < n → Le (left k) (right k)
        each k l =
            fraction D (weight_of (s k)) _ _ (climb π (s k)) _ _ (c.steps k l)
            (free_over D (s k) (amount_at xs k) (amount_at ys k) (range_of D p ys b k l))

        kept : ℤ
        kept = pos (4 * D) *ℤ (neg_ℤ (pos D) *ℤ R)

        scaled : (a : ℕ) (f : ℕ → ℕ) (t : ℕ) → pos t ≡ sum n (λ k. pos (f k)) → sum n (λ k. pos (a * f k)) ≡ pos (a * t)
        scaled a f t e = sym (sum_times n (pos a) (λ k. pos (f k))) ∙ ap (λ (z : ℤ). pos a *ℤ z) (sym e)

        left_sum : sum n left ≡ pos (4 * (D * D) * cost p.streams xs) +ℤ kept
        left_sum =
            sum_plus n (λ k. pos (4 * (D * D) * share (s k) (amount_at xs k))) _
            ∙ ap₂ ◌+ℤ◌ (scaled (4 * (D * D)) _ _ (cost_one p.streams xs (balanced_size p xs bx)))
            (sym (sum_times n (pos (4 * D)) _) ∙ ap (λ (z : ℤ). pos (4 * D) *ℤ z) (gain_is ys by (pos D)))

        right_sum : sum n right ≡ pos (4 * cost_over D p.streams ys + D * D * weights_to p.streams n) +ℤ kept
        right_sum =
            sum_plus n (λ k. pos (4 * share_over D (s k) (amount_at ys k) + D * D * weight_of (s k))) _
            ∙ ap₂ ◌+ℤ◌
            (sum_plus n (λ k. pos (4 * share_over D (s k) (amount_at ys k))) (λ k. pos (D * D * weight_of (s k)))
            ∙ ap₂ ◌+ℤ◌ (scaled 4 _ _ (cost_is D p.streams ys (balanced_size p ys by))) (scaled (D * D) _ _ (weights_is p.streams n)))
            (sym (sum_times n (pos (4 * (D * D))) _) ∙ ap (λ (z : ℤ). pos (4 * (D * D)) *ℤ z) (gain_one xs bx) ∙ same_gain 1 D R refl)

-- What potentials certify is vouched for.
pub vouched : (p : Plant) → Inside p.units p.streams → (π : ℕ → ℤ) (xs : List ℤ) → Certificate p xs π → Vouched p xs
vouched p w π xs c = record {
  least_cost = record { balance = c.balance; least = λ ys b. least p w π xs c ys b };
  near = λ ys d b. near p w π xs c ys d b;
}
