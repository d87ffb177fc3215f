-- A flow in fractions is of least cost where potentials differ at each stream's ends by its marginal cost, or by as much as the end
-- of a range allows.
use mathlib.Core.Path.{◌≡◌, sym, ◌∙◌, ap, ap₂}
use mathlib.Core.Bool.{Bool, true, not, ◌&&◌, ◌||◌}
use mathlib.Core.List.{List}
use lib.IntN.{ℤ, pos, negsuc, neg_ℤ, ◌+ℤ◌, ◌-ℤ◌, ◌*ℤ◌, *ℤ-zero, +ℤ_idr}
use lib.Signed.{le_z}
use Prim.Native.Nat.{ℕ, zero, suc, ◌*◌, ◌≤◌, ◌<◌}
use native.Mathlib.Nat.{mul-le-mul_left, lt_of_mul-lt-mul_left}
use native.Mathlib.Omega.{arith}
use borrow.Author.Tests.{eqb-true, leb-true}
use lib.Dec.{eqb, leb}
use Rattle.num_bytes.proofs.Tests.{and_left, and_right}
use Rattle.plant_def.specs.declared.Stream.{Stream}
use Rattle.plant_def.specs.Plants.{Plant, limited, plant_fault}
use Rattle.plant_def.specs.Within.{Within}
use Rattle.plant_def.proofs.Limited.{within}
use Rattle.flow_def.specs.Flows.{amount_at, in_range, allowed_over, square, cost_over}
use Rattle.flow_def.specs.Certificate.{weight_of, climb, every, listed_potential}
use Rattle.num_bytes.proofs.Integers.{up, dn, Le, Lt, val, canon, Z_diff, plus_val, minus_val, up_times, dn_times, product, le_z_le, lt_lt_z}
use Rattle.num_bytes.proofs.Sums.{sum, sum_same, sum_plus, sum_times, sum_le}
use Rattle.flow_def.proofs.Nets.{count_of, stream_of, balanced_size, no_gain}
use Rattle.flow_def.proofs.Ranges.{asked, answered, range_says, balanced_of, range_of}
use Rattle.flow_def.proofs.Potentials.{share_over, cost_is}
use Rattle.flow_def.proofs.Certified.{every_at}
use Rattle.flow_def.specs.Least.{LeastInFractions}
use Rattle.flow_def.specs.Exact.{rises_over, falls_over, marginal, exact, exact_potentials}
use Rattle.flow_def.proofs.Shares.{mixed_share, times_share, cross_from}
use Rattle.flow_def.proofs.Mixing.{times_le}

-- A potential difference c and a marginal cost m, times a change g of an amount: c may be less than m where the amount grows, and
-- more where it falls.
against : (c m g : ℤ) → (Lt (pos 0) g → Le c m) → (Lt g (pos 0) → Le m c) → Le (c *ℤ g) (m *ℤ g)
against c m (pos zero) f h = omega (arith, up_times c (pos 0), dn_times c (pos 0), up_times m (pos 0), dn_times m (pos 0))
against c m (pos (suc t)) f h =
    let l : Le c m = f (omega arith) in
    omega (arith, up_times c (pos (suc t)), dn_times c (pos (suc t)), up_times m (pos (suc t)), dn_times m (pos (suc t)), mul-le-mul_left (suc t) l)
against c m (negsuc t) f h =
    let l : Le m c = h (omega arith) in
    omega (arith, up_times c (negsuc t), dn_times c (negsuc t), up_times m (negsuc t), dn_times m (negsuc t), mul-le-mul_left (suc t) l)

climb_term : (e w : ℕ) (a g : ℤ) → pos e *ℤ ((pos (2 * w) *ℤ a) *ℤ g) ≡ pos (2 * e) *ℤ (pos w *ℤ (a *ℤ g))
climb_term e w a g = rw (← canon a, ← canon g) (simp Z_diff (omega arith))

gain_term : (d e : ℕ) (c y z : ℤ) → c *ℤ (pos d *ℤ z -ℤ pos e *ℤ y) ≡ pos d *ℤ (c *ℤ z) +ℤ neg_ℤ (pos e) *ℤ (c *ℤ y)
gain_term d e c y z = rw (← canon c, ← canon y, ← canon z) (simp Z_diff (omega arith))

-- At most what is kept and turned, and a square more.
more : (l r x y : ℤ) (n : ℕ) → Le l (x +ℤ y) → r ≡ x +ℤ (y +ℤ pos n) → Le l r
more l r x y n h f = omega (arith, val r (x +ℤ (y +ℤ pos n)) f, plus_val x y, plus_val y (pos n), plus_val x (y +ℤ pos n))

-- An amount z over e, in range, says whether y over d may be more or less.
module _ (s : Stream) (d e : ℕ) (y z : ℤ) (i : in_range e s z ≡ true) where
  abbrev gap : ℤ
  gap = pos d *ℤ z -ℤ pos e *ℤ y

  ends : (l : ℤ) → (up (pos d *ℤ (pos e *ℤ l)) ≡ e * up (pos d *ℤ l)) × (dn (pos d *ℤ (pos e *ℤ l)) ≡ e * dn (pos d *ℤ l))
  ends l = (
    omega (arith, product d (pos e *ℤ l), ap (λ k. d * k) (product e l).0, ap (λ k. e * k) (product d l).0),
    omega (arith, product d (pos e *ℤ l), ap (λ k. d * k) (product e l).1, ap (λ k. e * k) (product d l).1),
  )

  grows : Lt (pos 0) gap → rises_over d s y ≡ true
  grows h = answered (limited s) _ (λ q. lt_lt_z y (pos d *ℤ s.high) (lt_of_mul-lt-mul_left e
      (omega (arith, minus_val (pos d *ℤ z) (pos e *ℤ y), product e y, times_le d z (pos e *ℤ s.high) (range_says e s z i q).1, ends s.high))))

  shrinks : Lt gap (pos 0) → falls_over d s y ≡ true
  shrinks h = answered (limited s) _ (λ q. lt_lt_z (pos d *ℤ s.low) y (lt_of_mul-lt-mul_left e
      (omega (arith, minus_val (pos d *ℤ z) (pos e *ℤ y), product e y, times_le d (pos e *ℤ s.low) z (range_says e s z i q).0, ends s.low))))

  -- With exact potentials a change brings no more from the potentials than its marginal cost.
  kilter_change : (π : ℕ → ℤ) → exact d π s y ≡ true → Le (climb π s *ℤ gap) (marginal d s y *ℤ gap)
  kilter_change π x =
      let low = not (falls_over d s y) || le_z (marginal d s y) (climb π s) in
      against (climb π s) (marginal d s y) gap
      (λ h. le_z_le (climb π s) (marginal d s y) (asked (rises_over d s y) _ (and_right low _ x) (grows h)))
      (λ h. le_z_le (marginal d s y) (climb π s) (asked (falls_over d s y) _ (and_left low _ x) (shrinks h)))

module _ (p : Plant) (w : Within p) (d : ℕ) (ys : List ℤ) (b : allowed_over d p ys ≡ true) (π : ℕ → ℤ)
    (x : (k : ℕ) → k < count_of p → exact d π (stream_of p k) (amount_at ys k) ≡ true) where
  module _ (e : ℕ) (zs : List ℤ) (z : allowed_over e p zs ≡ true) where
    abbrev difference_at : ℕ → ℤ
    difference_at k = pos d *ℤ amount_at zs k -ℤ pos e *ℤ amount_at ys k

    abbrev below : ℕ → ℤ
    below k = amount_at ys k -ℤ pos d *ℤ (stream_of p k).reading

    -- The cost of the one flow, what a change brings at first, and what it brings from the potentials.
    abbrev kept : ℕ → ℤ
    kept k = pos (e * e) *ℤ pos (share_over d (stream_of p k) (amount_at ys k))

    abbrev turned : ℕ → ℤ
    turned k = pos (2 * e) *ℤ (pos (weight_of (stream_of p k)) *ℤ (below k *ℤ difference_at k))

    abbrev climbed : ℕ → ℤ
    climbed k = pos e *ℤ (climb π (stream_of p k) *ℤ difference_at k)

    abbrev left : ℕ → ℤ
    left k = kept k +ℤ climbed k

    abbrev right : ℕ → ℤ
    right k = pos (d * d) *ℤ pos (share_over e (stream_of p k) (amount_at zs k))

    each : (k : ℕ) → k < count_of p → Le (left k) (right k)
    each k l = more (left k) (right k) (kept k) (turned k) (weight_of s * square (difference_at k)) left_most right_is
      where
        s : Stream
        s = stream_of p k

        right_is : right k ≡ kept k +ℤ (turned k +ℤ pos (weight_of (stream_of p k) * square (difference_at k)))
        right_is =
            sym (times_share d (weight_of s) (amount_at zs k -ℤ pos e *ℤ s.reading))
            ∙ ap (λ (q : ℤ). pos (weight_of s * square q)) (cross_from d e (amount_at ys k) (amount_at zs k) s.reading)
            ∙ mixed_share e (weight_of s) (below k) (difference_at k)

        turned_is : pos e *ℤ (marginal d (stream_of p k) (amount_at ys k) *ℤ difference_at k) ≡ turned k
        turned_is = climb_term e (weight_of s) (below k) (difference_at k)

        left_most : Le (kept k +ℤ climbed k) (kept k +ℤ turned k)
        left_most =
            omega (
              arith,
              times_le e (climb π (stream_of p k) *ℤ difference_at k) (marginal d (stream_of p k) (amount_at ys k) *ℤ difference_at k)
                  (kilter_change (stream_of p k) d e (amount_at ys k) (amount_at zs k) (range_of e p zs z k l) π (x k l)),
              val (pos e *ℤ (marginal d (stream_of p k) (amount_at ys k) *ℤ difference_at k)) (turned k) turned_is,
              plus_val (kept k) (climbed k),
              plus_val (kept k) (turned k),
            )

    no_climb : sum (count_of p) climbed ≡ pos 0
    no_climb =
        sym (sum_times (count_of p) (pos e) _)
        ∙ ap (λ (q : ℤ). pos e *ℤ q)
        (sum_same (count_of p) _ (λ k. pos d *ℤ (climb π (stream_of p k) *ℤ amount_at zs k) +ℤ neg_ℤ (pos e) *ℤ (climb π (stream_of p k) *ℤ amount_at ys k))
        (λ k l. gain_term d e (climb π (stream_of p k)) (amount_at ys k) (amount_at zs k))
        ∙ sum_plus (count_of p) (λ k. pos d *ℤ (climb π (stream_of p k) *ℤ amount_at zs k)) (λ k. neg_ℤ (pos e) *ℤ (climb π (stream_of p k) *ℤ amount_at ys k))
        ∙ ap₂ ◌+ℤ◌ (none (pos d) e zs z) (none (neg_ℤ (pos e)) d ys b))
        ∙ *ℤ-zero (pos e)
      where
        none : (q : ℤ) (c : ℕ) (us : List ℤ) → allowed_over c p us ≡ true → sum (count_of p) (λ k. q *ℤ (climb π (stream_of p k) *ℤ amount_at us k)) ≡ pos 0
        none q c us a = sym (sum_times (count_of p) q _) ∙ ap (λ (t : ℤ). q *ℤ t) (no_gain p w us (balanced_of c p us a) π) ∙ *ℤ-zero q

    left_sum : sum (count_of p) left ≡ pos (e * e * cost_over d p.streams ys)
    left_sum =
        sum_plus (count_of p) kept climbed
        ∙ ap₂ ◌+ℤ◌
        (sym (sum_times (count_of p) (pos (e * e)) _) ∙ ap (λ (q : ℤ). pos (e * e) *ℤ q) (sym (cost_is d p.streams ys (balanced_size p ys (balanced_of d p ys b)))))
        no_climb
        ∙ +ℤ_idr _

    right_sum : sum (count_of p) right ≡ pos (d * d * cost_over e p.streams zs)
    right_sum =
        sym (sum_times (count_of p) (pos (d * d)) _)
        ∙ ap (λ (q : ℤ). pos (d * d) *ℤ q) (sym (cost_is e p.streams zs (balanced_size p zs (balanced_of e p zs z))))

    no_cheaper : e * e * cost_over d p.streams ys ≤ d * d * cost_over e p.streams zs
    no_cheaper = omega (arith, rw (left_sum, right_sum) at (sum_le (count_of p) left right each))

-- A flow with exact potentials is of least cost.
pub exact_least : (d : ℕ) (p : Plant) (ys potentials : List ℤ) → exact_potentials d p ys potentials ≡ true → LeastInFractions p d ys
exact_least d p ys potentials t = record {
  some = leb-true 1 d (and_left (leb 1 d) _ rest);
  allowed = and_left (allowed_over d p ys) _ tests;
  least = λ e zs l z.
      no_cheaper p (within p (eqb-true (plant_fault p) 0 (and_left (eqb (plant_fault p) 0) _ t))) d ys (and_left (allowed_over d p ys) _ tests)
      (listed_potential potentials) (λ k h. every_at (count_of p) at (and_right (allowed_over d p ys) _ tests) k h) e zs z;
}
  where
    at : ℕ → Bool
    at k = exact d (listed_potential potentials) (stream_of p k) (amount_at ys k)

    rest : leb 1 d && (allowed_over d p ys && every (count_of p) at) ≡ true
    rest = and_right (eqb (plant_fault p) 0) _ t

    tests : allowed_over d p ys && every (count_of p) at ≡ true
    tests = and_right (leb 1 d) _ rest
