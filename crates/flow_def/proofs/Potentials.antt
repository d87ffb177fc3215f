-- Potentials certify a flow: it has least cost, and flows of equal cost differ little from it.
use mathlib.Core.Path.{◌≡◌, refl, sym, ◌∙◌, ap, ap₂}
use mathlib.Core.Bool.{Bool, true, false}
use mathlib.Core.List.{List}
use lib.IntN.{ℤ, pos, neg_ℤ, ◌+ℤ◌, ◌-ℤ◌, ◌*ℤ◌, +ℤ_idl}
use Prim.Native.Nat.{ℕ, ◌+◌, ◌*◌, ◌≤◌, ◌<◌}
use native.Mathlib.Omega.{arith}
use lib.ListN.{length}
use Rattle.num_bytes.specs.Choice.{pick}
use Rattle.plant_def.specs.declared.Stream.{Stream}
use Rattle.plant_def.specs.Plants.{Plant}
use Rattle.plant_def.specs.Within.{Within}
use Rattle.flow_def.specs.Flows.{stream_at, amount_at, balanced, allowed, square, cost, cost_over}
use Rattle.flow_def.specs.Certificate.{weight_of, climb, rises, falls}
use Rattle.num_bytes.proofs.Integers.{Le, canon, Z_diff, plus_val, one_times}
use Rattle.num_bytes.proofs.Sums.{sum, sum_same, sum_plus, sum_times, sum_le, sum_tight}
use Rattle.flow_def.proofs.Nets.{count_of, stream_of, sum_listed, balanced_size, no_gain}
use Rattle.flow_def.proofs.Steps.{Step, Tied, whole, tied}
use Rattle.flow_def.proofs.Ranges.{balanced_of, range_of, free_whole}

-- The step condition of a stream with amount x.
abbrev pub StepAt : ℕ → (ℕ → ℤ) → Stream → ℤ → Type 0
StepAt Δ π s x = Step Δ (weight_of s) (x -ℤ s.reading) (climb π s) (falls s x) (rises s x)

-- Every stream meets the step condition at the climb of the potentials along it.
abbrev pub Steps : ℕ → (ℕ → ℤ) → List Stream → (ℕ → ℤ) → Type 0
Steps Δ π ss x = (k : ℕ) → k < length ss → StepAt Δ π (stream_at ss k) (x k)

-- Potentials that certify a flow of a plant.
pub record Certificate (p : Plant) (xs : List ℤ) (π : ℕ → ℤ) : Type 0 where
  pub balance : allowed p xs ≡ true
  pub steps : Steps 1 π p.streams (amount_at xs)

-- A stream's part in the cost of a whole flow.
abbrev pub share : Stream → ℤ → ℕ
share s x = weight_of s * square (x -ℤ s.reading)

-- D squared times what a stream's amount in D-ths costs.
abbrev pub share_over : ℕ → Stream → ℤ → ℕ
share_over D s x = weight_of s * square (x -ℤ pos D *ℤ s.reading)

-- A weight that a test gives or takes away, times q.
pub weighed : (b : Bool) (w q : ℕ) → pick b (w * q) 0 ≡ pick b w 0 * q
weighed true w q = refl
weighed false w q = omega arith

-- The cost of a flow in D-ths is the sum over its streams,
pub cost_is : (D : ℕ) (ss : List Stream) (xs : List ℤ) → length xs ≡ length ss
    → pos (cost_over D ss xs) ≡ sum (length ss) (λ k. pos (share_over D (stream_at ss k) (amount_at xs k)))
cost_is D = sum_listed (λ s x. pos (share_over D s x)) (λ ss xs. pos (cost_over D ss xs)) (λ xs. refl)
    (λ s ss x xs. ap (λ a. pos (a + cost_over D ss xs)) (weighed s.metered s.weight (square (x -ℤ pos D *ℤ s.reading))))

-- and so is that of a whole flow.
pub cost_one : (ss : List Stream) (xs : List ℤ) → length xs ≡ length ss
    → pos (cost ss xs) ≡ sum (length ss) (λ k. pos (share (stream_at ss k) (amount_at xs k)))
cost_one ss xs e = cost_is 1 ss xs e ∙ sum_same (length ss) _ _ (λ k l. of (stream_at ss k) (amount_at xs k))
  where
    of : (s : Stream) (x : ℤ) → pos (share_over 1 s x) ≡ pos (share s x)
    of s x = ap (λ (r : ℤ). pos (weight_of s * square (x -ℤ r))) (one_times s.reading)

-- Potential differences times deviations from the readings: the same sum for every balanced flow over D.
term : (c y D r : ℤ) → c *ℤ (y -ℤ D *ℤ r) ≡ c *ℤ y +ℤ neg_ℤ D *ℤ (c *ℤ r)
term c y D r = rw (← canon c, ← canon y, ← canon D, ← canon r) (simp Z_diff (omega arith))

module _ (p : Plant) (w : Within p) (π : ℕ → ℤ) (ys : List ℤ) (b : balanced p ys ≡ true) where
  -- What potentials gain along the deviations of a balanced flow in D-ths depends on the readings alone,
  pub gain_is : (D : ℤ) → sum (count_of p) (λ k. climb π (stream_of p k) *ℤ (amount_at ys k -ℤ D *ℤ (stream_of p k).reading))
      ≡ neg_ℤ D *ℤ sum (count_of p) (λ k. climb π (stream_of p k) *ℤ (stream_of p k).reading)
  gain_is D =
      sum_same n _ (λ k. c k *ℤ amount_at ys k +ℤ neg_ℤ D *ℤ (c k *ℤ r k)) (λ k l. term (c k) (amount_at ys k) D (r k))
      ∙ sum_plus n (λ k. c k *ℤ amount_at ys k) (λ k. neg_ℤ D *ℤ (c k *ℤ r k))
      ∙ ap₂ ◌+ℤ◌ (no_gain p w ys b π) (sym (sum_times n (neg_ℤ D) (λ k. c k *ℤ r k)))
      ∙ +ℤ_idl _
    where
      n : ℕ
      n = count_of p

      c : ℕ → ℤ
      c k = climb π (stream_of p k)

      r : ℕ → ℤ
      r k = (stream_of p k).reading

  -- and likewise of a whole flow.
  pub gain_one : sum (count_of p) (λ k. climb π (stream_of p k) *ℤ (amount_at ys k -ℤ (stream_of p k).reading))
      ≡ neg_ℤ (pos 1) *ℤ sum (count_of p) (λ k. climb π (stream_of p k) *ℤ (stream_of p k).reading)
  gain_one =
      sum_same (count_of p) _ _ (λ k l. ap (λ (r : ℤ). climb π (stream_of p k) *ℤ (amount_at ys k -ℤ r)) (sym (one_times (stream_of p k).reading)))
      ∙ gain_is (pos 1)

module _ (p : Plant) (w : Within p) (π : ℕ → ℤ) where
  -- One side of the comparison: the cost of xs, and what ys gains from the potentials.
  abbrev mixed : List ℤ → List ℤ → ℕ → ℤ
  mixed xs ys k =
      let s = stream_of p k in
      pos (share s (amount_at xs k)) +ℤ climb π s *ℤ (amount_at ys k -ℤ s.reading)

  abbrev kept : ℤ
  kept = neg_ℤ (pos 1) *ℤ sum (count_of p) (λ k. climb π (stream_of p k) *ℤ (stream_of p k).reading)

  mixed_sum : (xs ys : List ℤ) → balanced p xs ≡ true → balanced p ys ≡ true → sum (count_of p) (mixed xs ys) ≡ pos (cost p.streams xs) +ℤ kept
  mixed_sum xs ys a b =
      sum_plus (count_of p) (λ k. pos (share (stream_of p k) (amount_at xs k))) _
      ∙ ap₂ ◌+ℤ◌ (sym (cost_one p.streams xs (balanced_size p xs a))) (gain_one p w π ys b)

  module _ (xs : List ℤ) (c : Certificate p xs π) (ys : List ℤ) (b : allowed p ys ≡ true) where
    sums : (sum (count_of p) (mixed xs ys) ≡ pos (cost p.streams xs) +ℤ kept) × (sum (count_of p) (mixed ys xs) ≡ pos (cost p.streams ys) +ℤ kept)
    sums =
        let bx = balanced_of 1 p xs c.balance in
        let by = balanced_of 1 p ys b in
        (mixed_sum xs ys bx by, mixed_sum ys xs by bx)

    each_le : (k : ℕ) → k < count_of p → Le (mixed xs ys k) (mixed ys xs k)
    each_le k l =
        whole (weight_of (stream_of p k)) _ _ (climb π (stream_of p k)) _ _ (c.steps k l)
        (free_whole (stream_of p k) (amount_at xs k) (amount_at ys k) (range_of 1 p ys b k l))

    -- A certified flow has least cost among whole flows in range.
    pub least : cost p.streams xs ≤ cost p.streams ys
    least =
        omega (
          arith,
          rw (sums.0, sums.1) at (sum_le (count_of p) (mixed xs ys) (mixed ys xs) each_le),
          plus_val (pos (cost p.streams xs)) kept,
          plus_val (pos (cost p.streams ys)) kept,
        )

    -- A flow of equal cost differs by at most 1 on each metered stream, and only where a bound is tight.
    pub ties : cost p.streams ys ≤ cost p.streams xs → (k : ℕ) → k < count_of p → 1 ≤ weight_of (stream_of p k)
        → Tied (weight_of (stream_of p k)) (amount_at xs k -ℤ (stream_of p k).reading) (amount_at ys k -ℤ (stream_of p k).reading) (climb π (stream_of p k))
        (falls (stream_of p k) (amount_at xs k)) (rises (stream_of p k) (amount_at xs k))
    ties h k l v =
        tied (weight_of (stream_of p k)) _ _ (climb π (stream_of p k)) _ _ v (c.steps k l)
        (free_whole (stream_of p k) (amount_at xs k) (amount_at ys k) (range_of 1 p ys b k l)) (rw at_k (omega arith))
      where
        at_k : mixed xs ys k ≡ mixed ys xs k
        at_k = sum_tight (count_of p) (mixed xs ys) (mixed ys xs) each_le
            (rw (sums.0, sums.1)
            (omega (arith, plus_val (pos (cost p.streams xs)) kept, plus_val (pos (cost p.streams ys)) kept))) k l
