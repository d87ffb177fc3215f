-- A flow in fractions of least cost: every other flow costs more by at least the square of its distance. So a whole-number
-- flow that costs little more is near, and there is only one such flow.
use mathlib.Core.Path.{◌≡◌, refl, sym, ◌∙◌, ap, ap₂, subst}
use mathlib.Core.Bool.{true}
use mathlib.Core.List.{List}
use lib.IntN.{ℤ, pos, ◌+ℤ◌, ◌-ℤ◌, ◌*ℤ◌}
use Prim.Native.Nat.{ℕ, zero, suc, ◌+◌, ◌*◌, ◌≤◌, ◌<◌}
use native.Mathlib.Nat.{mul-le-mul, mul-le-mul_left, mul-le-mul_right}
use native.Mathlib.Omega.{arith}
use native.Mathlib.Decide.{dec_le}
use Rattle.plant_def.specs.declared.Stream.{Stream}
use Rattle.plant_def.specs.Plants.{Plant}
use Rattle.plant_def.specs.Within.{Within}
use Rattle.flow_def.specs.Flows.{amount_at, allowed_over, allowed, square, cost, cost_over}
use Rattle.flow_def.specs.Certificate.{weight_of}
use Rattle.num_bytes.proofs.Integers.{up, dn, Le, val, canon, Z_diff, Le-unless, size_none, minus_none, plus_val, pos_inj}
use Rattle.num_bytes.proofs.Sums.{sum, sum_same, sum_none, sum_plus, sum_times, sum_tight}
use Rattle.flow_def.proofs.Nets.{count_of, stream_of, listed_size, balanced_size}
use Rattle.flow_def.proofs.Ranges.{balanced_of}
use Rattle.flow_def.proofs.Potentials.{share_over, weighed, cost_is}
use Rattle.flow_def.specs.Least.{LeastInFractions, distance}
use Rattle.flow_def.proofs.Shares.{mixed_share, difference_share, times_share, times_from, mixed_from, difference_from}
use Rattle.flow_def.proofs.Distance.{distance_is}
use Rattle.flow_def.proofs.Mixing.{times, times_at, mixture, mixture_at, times_allowed, mixture_allowed}

-- Naturals.
cancel : (d a b : ℕ) → 1 ≤ d → d * d * a ≤ d * d * b → a ≤ b
cancel d a b l h = elim (dec_le a b) [
  | yes k ↦ k
  | no k ↦
      let more : suc b ≤ a = omega arith in
      absurd (omega (arith, mul-le-mul_left (d * d) more, mul-le-mul_left d l))
]

mixed_parts : (c k l a e : ℕ) (x : ℤ) → pos c ≡ pos k *ℤ pos a +ℤ (pos l *ℤ x +ℤ pos e) → c + l * dn x ≡ k * a + l * up x + e
mixed_parts c k l a e x h = omega (arith, simp Z_diff at (rw (← canon x) at h))

difference_parts : (g x : ℤ) (a e : ℕ) → g +ℤ pos 2 *ℤ x ≡ pos a +ℤ pos e → up g + 2 * up x ≡ dn g + a + e + 2 * dn x
difference_parts g x a e h = omega (arith, simp Z_diff at (rw (← canon g, ← canon x) at h))

-- No number of parts of the cheaper flow undercuts it: then the product of the deviations is no less than its cost.
too_many : (a e c n u v : ℕ) → n ≡ suc e → suc n * suc n * a ≤ c → c + 2 * n * v ≡ n * n * a + 2 * n * u + e → u < a + v → ⊥
too_many a e c n u v q h k l = omega (arith, mul-le-mul_left n l)

-- The cost of a flow over d as a sum.
pub cost_sum : (p : Plant) (d : ℕ) (xs : List ℤ) → allowed_over d p xs ≡ true
    → sum (count_of p) (λ k. pos (share_over d (stream_of p k) (amount_at xs k))) ≡ pos (cost_over d p.streams xs)
cost_sum p d xs a = sym (cost_is d p.streams xs (balanced_size p xs (balanced_of d p xs a)))

-- Two flows over d, the first of least cost.
module _ (p : Plant) (w : Within p) (d : ℕ) (ys : List ℤ) (m : LeastInFractions p d ys) (zs : List ℤ) (b : allowed_over d p zs ≡ true) where
  abbrev s : ℕ → Stream
  s k = stream_of p k

  abbrev below : ℕ → ℤ
  below k = amount_at ys k -ℤ pos d *ℤ (s k).reading

  abbrev other : ℕ → ℤ
  other k = amount_at zs k -ℤ pos d *ℤ (s k).reading

  abbrev cross_at : ℕ → ℤ
  cross_at k = pos (weight_of (s k)) *ℤ (below k *ℤ other k)

  abbrev its_cost : ℕ
  its_cost = cost_over d p.streams ys

  abbrev other_cost : ℕ
  other_cost = cost_over d p.streams zs

  -- What n parts of the one and one of the other cost.
  mixed_cost : (n : ℕ) → pos (cost_over (suc n * d) p.streams (mixture p n ys zs))
      ≡ pos (n * n) *ℤ pos its_cost +ℤ (pos (2 * n) *ℤ sum (count_of p) cross_at +ℤ pos other_cost)
  mixed_cost n =
      cost_is (suc n * d) p.streams (mixture p n ys zs) (listed_size p _)
      ∙ sum_same (count_of p) _ (λ k. first k +ℤ (second k +ℤ third k)) each
      ∙ sum_plus (count_of p) first (λ k. second k +ℤ third k)
      ∙ ap₂ ◌+ℤ◌ (sym (sum_times (count_of p) (pos (n * n)) _) ∙ ap (λ (x : ℤ). pos (n * n) *ℤ x) (cost_sum p d ys m.allowed))
      (sum_plus (count_of p) second third ∙ ap₂ ◌+ℤ◌ (sym (sum_times (count_of p) (pos (2 * n)) cross_at)) (cost_sum p d zs b))
    where
      first : ℕ → ℤ
      first k = pos (n * n) *ℤ pos (share_over d (s k) (amount_at ys k))

      second : ℕ → ℤ
      second k = pos (2 * n) *ℤ cross_at k

      third : ℕ → ℤ
      third k = pos (share_over d (s k) (amount_at zs k))

      each : (k : ℕ) → k < count_of p → pos (share_over (suc n * d) (s k) (amount_at (mixture p n ys zs) k)) ≡ first k +ℤ (second k +ℤ third k)
      each k l =
          ap (λ (x : ℤ). pos (weight_of (s k) * square x))
          (ap (λ (x : ℤ). x -ℤ pos (suc n * d) *ℤ (s k).reading) (mixture_at p n ys zs k l) ∙ mixed_from n d (amount_at ys k) (amount_at zs k) (s k).reading)
          ∙ mixed_share n (weight_of (s k)) (below k) (other k)

  no_better : (n : ℕ) → suc n * suc n * its_cost ≤ cost_over (suc n * d) p.streams (mixture p n ys zs)
  no_better n =
      cancel d (suc n * suc n * its_cost) (cost_over (suc n * d) p.streams (mixture p n ys zs)) m.some
      (omega (arith, m.least (suc n * d) (mixture p n ys zs) (omega (arith, m.some)) (mixture_allowed p w d ys m.allowed n zs b)))

  cross_most : Le (pos its_cost) (sum (count_of p) cross_at)
  cross_most = Le-unless (pos its_cost) (sum (count_of p) cross_at) (λ h.
      let n = suc other_cost in
      too_many its_cost other_cost _ n (up (sum (count_of p) cross_at)) (dn (sum (count_of p) cross_at)) refl (no_better n)
      (mixed_parts _ (n * n) (2 * n) its_cost other_cost (sum (count_of p) cross_at) (mixed_cost n)) (omega arith))

  -- The square of the distance.
  abbrev pub difference_at : ℕ → ℤ
  difference_at k = pos (weight_of (s k) * square (amount_at zs k -ℤ amount_at ys k))

  difference_sum : sum (count_of p) difference_at +ℤ pos 2 *ℤ sum (count_of p) cross_at ≡ pos its_cost +ℤ pos other_cost
  difference_sum =
      ap (λ (x : ℤ). sum (count_of p) difference_at +ℤ x) (sum_times (count_of p) (pos 2) cross_at)
      ∙ sym (sum_plus (count_of p) difference_at _)
      ∙ sum_same (count_of p) _ (λ k. pos (share_over d (s k) (amount_at ys k)) +ℤ pos (share_over d (s k) (amount_at zs k))) each
      ∙ sum_plus (count_of p) _ _
      ∙ ap₂ ◌+ℤ◌ (cost_sum p d ys m.allowed) (cost_sum p d zs b)
    where
      each : (k : ℕ) → k < count_of p → difference_at k +ℤ pos 2 *ℤ cross_at k
          ≡ pos (share_over d (s k) (amount_at ys k)) +ℤ pos (share_over d (s k) (amount_at zs k))
      each k l =
          ap (λ (x : ℤ). pos (weight_of (s k) * square x) +ℤ pos 2 *ℤ cross_at k) (difference_from d (amount_at ys k) (amount_at zs k) (s k).reading)
          ∙ difference_share (weight_of (s k)) (below k) (other k)

  -- The other flow costs more by at least that.
  pub difference_cost : Le (sum (count_of p) difference_at +ℤ pos its_cost) (pos other_cost)
  difference_cost =
      omega (
        arith,
        cross_most,
        difference_parts (sum (count_of p) difference_at) (sum (count_of p) cross_at) its_cost other_cost difference_sum,
        plus_val (sum (count_of p) difference_at) (pos its_cost),
      )

module _ (p : Plant) (w : Within p) where
  -- A flow over d, stated over c times d.
  times_cost : (c d : ℕ) (xs : List ℤ) → allowed_over d p xs ≡ true → cost_over (c * d) p.streams (times p c xs) ≡ c * c * cost_over d p.streams xs
  times_cost c d xs a = pos_inj (
      cost_is (c * d) p.streams (times p c xs) (listed_size p (λ k. pos c *ℤ amount_at xs k))
      ∙ sum_same (count_of p) _ (λ k. pos (c * c) *ℤ pos (share_over d (stream_of p k) (amount_at xs k))) each
      ∙ sym (sum_times (count_of p) (pos (c * c)) _)
      ∙ ap (λ (x : ℤ). pos (c * c) *ℤ x) (cost_sum p d xs a))
    where
      each : (k : ℕ) → k < count_of p → pos (share_over (c * d) (stream_of p k) (amount_at (times p c xs) k)) ≡ pos (c * c) *ℤ pos (share_over d (stream_of p k) (amount_at xs k))
      each k l =
          ap (λ (x : ℤ). pos (weight_of (stream_of p k) * square x))
          (ap (λ (x : ℤ). x -ℤ pos (c * d) *ℤ (stream_of p k).reading) (times_at p c xs k l) ∙ times_from c d (amount_at xs k) (stream_of p k).reading)
          ∙ times_share c (weight_of (stream_of p k)) (amount_at xs k -ℤ pos d *ℤ (stream_of p k).reading)

  times_least : (c d : ℕ) (ys : List ℤ) → 1 ≤ c → LeastInFractions p d ys → LeastInFractions p (c * d) (times p c ys)
  times_least c d ys l m = record {
    some = mul-le-mul l m.some;
    allowed = times_allowed p w d ys m.allowed c;
    least = λ e zs h b. rw (times_cost c d ys m.allowed) (omega (arith, mul-le-mul_left (c * c) (m.least e zs h b)));
  }

  -- A whole-number flow that costs more by a quarter of q at most is as near.
  pub near_fractions : (xs ys : List ℤ) (d q : ℕ) → allowed p xs ≡ true → LeastInFractions p d ys
      → 4 * (d * d) * cost p.streams xs ≤ 4 * cost_over d p.streams ys + d * d * q
      → 4 * distance d p.streams (amount_at xs) ys ≤ d * d * q
  near_fractions xs ys d q a m h =
      omega (
        arith,
        difference_cost p w d ys m (times p d xs) whole,
        plus_val (sum (count_of p) (difference_at p w d ys m (times p d xs) whole)) (pos (cost_over d p.streams ys)),
        val _ _ distance_sum,
        whole_cost,
      )
    where
      one : d * 1 ≡ d
      one = omega arith

      whole : allowed_over d p (times p d xs) ≡ true
      whole = rw one at (times_allowed p w 1 xs a d)

      whole_cost : cost_over d p.streams (times p d xs) ≡ d * d * cost p.streams xs
      whole_cost = rw one at (times_cost d 1 xs a)

      distance_sum : pos (distance d p.streams (amount_at xs) ys) ≡ sum (count_of p) (difference_at p w d ys m (times p d xs) whole)
      distance_sum =
          distance_is d p.streams ys (amount_at xs) (count_of p)
          ∙ sum_same (count_of p) _ _ (λ k l. ap (λ (x : ℤ). pos (weight_of (stream_of p k) * square (x -ℤ amount_at ys k))) (sym (times_at p d xs k l)))

-- No weighted square is 0 but that of 0.
pub no_square : (w a : ℕ) → 1 ≤ w → w * (a * a) ≡ 0 → a ≡ 0
no_square w zero l e = refl
no_square w (suc a) l e = absurd (omega (arith, mul-le-mul_right (suc a * suc a) l))

module _ (p : Plant) (w : Within p) where
  -- Two flows over one denominator, both of least cost, agree on the metered streams.
  one_over : (d : ℕ) (ys zs : List ℤ) → LeastInFractions p d ys → LeastInFractions p d zs
      → (k : ℕ) → k < count_of p → (stream_of p k).metered ≡ true → amount_at zs k ≡ amount_at ys k
  one_over d ys zs m o k l t =
      minus_none (amount_at zs k) (amount_at ys k) (size_none _ (no_square (weight_of (stream_of p k)) _ (rw t ((w.each k l).weighed t)) none_here))
    where
      as_cheap : cost_over d p.streams zs ≤ cost_over d p.streams ys
      as_cheap = cancel d (cost_over d p.streams zs) (cost_over d p.streams ys) m.some (o.least d ys m.some m.allowed)

      gap : ℕ → ℤ
      gap = difference_at p w d ys m zs o.allowed

      none : pos 0 ≡ gap k
      none =
          sum_tight (count_of p) (λ j. pos 0) gap (λ j h. omega arith)
          (rw (sum_none (count_of p) (λ j. pos 0) (λ j h. refl))
          (omega (arith, as_cheap, difference_cost p w d ys m zs o.allowed, plus_val (sum (count_of p) gap) (pos (cost_over d p.streams ys))))) k l

      none_here : weight_of (stream_of p k) * square (amount_at zs k -ℤ amount_at ys k) ≡ 0
      none_here = omega (arith, val (pos 0) (pos (weight_of (stream_of p k) * square (amount_at zs k -ℤ amount_at ys k))) none)

  -- Over d and over e they are the same fractions.
  pub one_fraction : (d e : ℕ) (ys zs : List ℤ) → LeastInFractions p d ys → LeastInFractions p e zs
      → (k : ℕ) → k < count_of p → (stream_of p k).metered ≡ true → pos e *ℤ amount_at ys k ≡ pos d *ℤ amount_at zs k
  one_fraction d e ys zs m o k l t =
      let swap : d * e ≡ e * d = omega arith in
      sym (times_at p e ys k l)
      ∙ sym (one_over (e * d) (times p e ys) (times p d zs) (times_least p w e d ys o.some m)
      (subst (λ (q : ℕ). LeastInFractions p q (times p d zs)) swap (times_least p w d e zs m.some o)) k l t)
      ∙ times_at p d zs k l
