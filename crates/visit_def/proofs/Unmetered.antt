-- A plant with one meter gone: what balanced and was in range still does and is, and costs no more.
use mathlib.Core.Path.{◌≡◌, refl, sym, ◌∙◌, ap, subst}
use mathlib.Core.Bool.{true, false≢true}
use mathlib.Core.List.{List, [], ◌∷◌}
use lib.IntN.{ℤ, pos, neg_ℤ, ◌+ℤ◌}
use Prim.Native.Nat.{ℕ, zero, suc, ◌≤◌, ◌<◌}
use native.Mathlib.Omega.{arith}
use native.Mathlib.Decide.{dec_le, ℕ_discrete}
use borrow.Author.Tests.{le-leb, lt-leb}
use lib.Dec.{eqb}
use lib.ListN.{length, get_or, set, length-set}
use lib.Seq.{get_or-set_same, get_or-set_other}
use Rattle.num_bytes.specs.Choice.{pick}
use Rattle.num_bytes.proofs.Tests.{and_left, and_right, and_both, clash}
use Rattle.plant_def.specs.declared.Stream.{Stream}
use Rattle.plant_def.specs.Plants.{Plant, no_stream}
use Rattle.plant_def.specs.Files.{got, read_plant}
use Rattle.plant_def.specs.Within.{WithinStream, WithinParts, Within}
use Rattle.plant_def.proofs.Limited.{within}
use Rattle.plant_def.proofs.Accepted.{accepted}
use Rattle.flow_def.specs.Flows.{stream_at, net_at, balanced_to, balanced, in_range, in_ranges, allowed_over, allowed, cost_over, cost, Cheapest}
use Rattle.flow_def.proofs.Decided.{Decided, solved, full}
use Rattle.flow_def.proofs.Overfull.{overfull_none}
use Rattle.solve_def.proofs.Theorem.{decided}
use Rattle.sheet_def.specs.Totals.{top_cost, capped}
use Rattle.visit_def.specs.Visits.{unmeter, without, LeastCost}

abbrev gone : List Stream → ℕ → List Stream
gone ss k = set ss k (unmeter (stream_at ss k))

-- A plant within its limits is so without a meter.
within_gone : (n : ℕ) (s : Stream) → WithinStream n s → WithinStream n (unmeter s)
within_gone n s w = record {
  from_in = w.from_in;
  to_in = w.to_in;
  distinct = w.distinct;
  weighed = λ e. absurd (false≢true e);
  light = λ e. absurd (false≢true e);
  within_range = λ e. absurd (false≢true e);
  ordered = λ e. absurd (false≢true e);
  low_in = λ e. absurd (false≢true e);
  high_in = λ e. absurd (false≢true e);
}

-- Its parts are within the limits.
pub parts_gone : {n c : ℕ} {ss : List Stream} → WithinParts n c ss → (k : ℕ) → k < c → c ≤ length ss → WithinParts n c (gone ss k)
parts_gone {n} {c} {ss} w k l h = record { some_units = w.some_units; few_units = w.few_units; few_streams = w.few_streams; each = each }
  where
    each : (j : ℕ) → j < c → WithinStream n (get_or (gone ss k) j no_stream)
    each j m = elim (ℕ_discrete j k) [
      | yes e ↦ rw (e, get_or-set_same ss k (unmeter (stream_at ss k)) no_stream (omega arith)) (within_gone n (stream_at ss k) (w.each k l))
      | no e ↦ rw (get_or-set_other ss k j (unmeter (stream_at ss k)) no_stream e) (w.each j m)
    ]

within_without : (p : Plant) → Within p → (k : ℕ) → k < length p.streams → Within (without p k)
within_without p w k l =
    subst (λ (c : ℕ). WithinParts p.units c (gone p.streams k)) (sym (length-set p.streams k (unmeter (stream_at p.streams k))))
    (parts_gone w k l (omega arith))

net_same : (u : ℕ) (ss : List Stream) (k : ℕ) (xs : List ℤ) → net_at u (gone ss k) xs ≡ net_at u ss xs
net_same u [] k xs = refl
net_same u (s ∷ ss) zero [] = refl
net_same u (s ∷ ss) zero (x ∷ xs) = refl
net_same u (s ∷ ss) (suc k) [] = refl
net_same u (s ∷ ss) (suc k) (x ∷ xs) =
    ap (λ (z : ℤ). pick (eqb s.to u) x (pos 0) +ℤ (pick (eqb s.from u) (neg_ℤ x) (pos 0) +ℤ z)) (net_same u ss k xs)

balanced_same : (n : ℕ) (ss : List Stream) (k : ℕ) (xs : List ℤ) → balanced_to n (gone ss k) xs ≡ balanced_to n ss xs
balanced_same zero ss k xs = refl
balanced_same (suc n) ss k xs = rw (net_same (suc n) ss k xs, balanced_same n ss k xs)

ranges_kept : (d : ℕ) (ss : List Stream) (k : ℕ) (xs : List ℤ) → in_ranges d ss xs ≡ true → in_ranges d (gone ss k) xs ≡ true
ranges_kept d [] k xs e = refl
ranges_kept d (s ∷ ss) zero [] e = refl
ranges_kept d (s ∷ ss) zero (x ∷ xs) e = and_right (in_range d s x) (in_ranges d ss xs) e
ranges_kept d (s ∷ ss) (suc k) [] e = refl
ranges_kept d (s ∷ ss) (suc k) (x ∷ xs) e =
    and_both (in_range d s x) (in_ranges d (gone ss k) xs) (and_left (in_range d s x) (in_ranges d ss xs) e) (ranges_kept d ss k xs (and_right (in_range d s x) (in_ranges d ss xs) e))

cost_less : (d : ℕ) (ss : List Stream) (k : ℕ) (xs : List ℤ) → cost_over d (gone ss k) xs ≤ cost_over d ss xs
cost_less d [] k xs = omega arith
cost_less d (s ∷ ss) zero [] = omega arith
cost_less d (s ∷ ss) zero (x ∷ xs) = omega arith
cost_less d (s ∷ ss) (suc k) [] = omega arith
cost_less d (s ∷ ss) (suc k) (x ∷ xs) = omega (arith, cost_less d ss k xs)

-- Over any denominator.
pub feasible_over : (d : ℕ) (p : Plant) (k : ℕ) (xs : List ℤ) → allowed_over d p xs ≡ true → allowed_over d (without p k) xs ≡ true
feasible_over d p k xs e =
    let b = and_left (balanced p xs) (in_ranges d p.streams xs) e in
    and_both (balanced (without p k) xs) (in_ranges d (gone p.streams k) xs)
    (rw (length-set p.streams k (unmeter (stream_at p.streams k)), balanced_same p.units p.streams k xs) b)
    (ranges_kept d p.streams k xs (and_right (balanced p xs) (in_ranges d p.streams xs) e))

-- A flow in range stays in range.
pub feasible : (p : Plant) (k : ℕ) (xs : List ℤ) → allowed p xs ≡ true → allowed (without p k) xs ≡ true
feasible p k xs e = feasible_over 1 p k xs e

-- So where there is a flow in range, a cheapest one is there without a meter too.
pub sheet_without : (file : List ℕ) (p : Plant) → read_plant file ≡ got p → (xs : List ℤ) → allowed p xs ≡ true
    → (k : ℕ) → k < length p.streams → (ys : List ℤ) × Cheapest (without p k) ys
sheet_without file p e xs a k l = go (decided (without p k) w)
  where
    w : Within (without p k)
    w = within_without p (within p (accepted file p e).0) k l

    go : Decided (without p k) → (ys : List ℤ) × Cheapest (without p k) ys
    go (solved ys π h c) = (ys, h)
    go (full ms o) = clash (allowed (without p k) xs) (feasible p k xs a) (overfull_none (without p k) w ms o 1 xs (omega arith))

-- Capped costs keep their order.
capped_le : (a b : ℕ) → a ≤ b → capped a ≤ capped b
capped_le a b h = elim (dec_le b top_cost) [
  | yes l ↦ rw (le-leb a top_cost (omega arith), le-leb b top_cost l) h
  | no l ↦ elim (dec_le a top_cost) [
    | yes m ↦ rw (le-leb a top_cost m, lt-leb b top_cost (omega arith)) m
    | no m ↦ rw (lt-leb a top_cost (omega arith), lt-leb b top_cost (omega arith)) (omega arith)
  ]
]

-- Without a meter the least cost is not above the sheet's.
pub not_above : (p : Plant) (k : ℕ) (xs : List ℤ) (c : ℕ) → Cheapest p xs → LeastCost (without p k) c → c ≤ capped (cost p.streams xs)
not_above p k xs c h l =
    rw l.2
    (capped_le (cost (gone p.streams k) l.0) (cost p.streams xs)
    (omega (arith, l.1.least xs (feasible p k xs h.balance), cost_less 1 p.streams k xs)))

-- No two costs are the least.
pub one_cost : (p : Plant) (c d : ℕ) → LeastCost p c → LeastCost p d → c ≡ d
one_cost p c d x y =
    let a = x.1.least y.0 y.1.balance in
    let b = y.1.least x.0 x.1.balance in
    let e : cost p.streams x.0 ≡ cost p.streams y.0 = omega arith in
    x.2 ∙ ap capped e ∙ sym y.2
