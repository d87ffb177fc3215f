-- What streams cost by their rows.
use mathlib.Core.Path.{◌≡◌, refl, sym, ap, ◌∙◌}
use mathlib.Core.Logic.{⊎_elim}
use mathlib.Core.List.{List, [], ◌∷◌, map}
use lib.IntN.{ℤ, pos, nat_abs, ◌-ℤ◌}
use Prim.Native.Nat.{ℕ, zero, suc, ◌+◌, ◌-◌, ◌*◌, ◌/◌, ◌≤◌, ◌<◌}
use native.Mathlib.Omega.{arith}
use native.Mathlib.Decide.{dec_le}
use native.Mathlib.Nat.{mul-le-mul_left, mul-div_cancel, zero-div}
use lib.ListN.{length, get_or, take, length-map}
use Rattle.num_bytes.proofs.Tests.{by_cases}
use Rattle.plant_def.specs.declared.Stream.{Stream}
use Rattle.plant_def.specs.declared.Plant.{Plant}
use Rattle.plant_def.specs.Limits.{max_units, max_streams}
use Rattle.plant_def.specs.Plants.{no_stream}
use Rattle.plant_def.specs.Says.{plant_of}
use Rattle.plant_def.specs.Within.{WithinStream}
use Rattle.plant_def.proofs.Arrayed.{stream_within}
use Rattle.flow_def.specs.Certificate.{weight_of}
use Rattle.flow_def.specs.Flows.{amount_at, cost}
use Rattle.num_bytes.proofs.Integers.{size_val, minus_val, parts}
use Rattle.num_bytes.proofs.Lists.{map_at}
use Rattle.solve_def.specs.Sizes.{flow_shift}
use Rattle.solve_def.specs.Held.{shifted, unshifted, opened, reading_of}
use Rattle.solve_def.specs.SolverNeeds.{Amounts}
use Rattle.solve_def.proofs.Amounts.{unshifted_val}
use Rattle.solve_def.proofs.Certify.{held_val}
use Rattle.solve_arcs_fill.specs.Plants.{LaidOf}
use Rattle.solve_arcs_fill.proofs.Plants.{weight_at, pull_at}
use Rattle.sheet_def.specs.Totals.{capped}
use Rattle.sheet_def.specs.Calls.{stream_cost}
use Rattle.sheet_def.proofs.Opening.{opened_small}
use Rattle.sheet_cost.specs.Rows.{distance_squared, safe_root}
use Rattle.sheet_cost.proofs.Costing.{Costed, Summed, unmetered_cost, metered_cost, summed_more, summed_all}

-- How far twice the weight times an amount is from twice the weight times another, in weights.
distance_halved : (w x y t : ℕ) → 1 ≤ w → y ≡ x + t → (2 * (w * y) - 2 * (w * x)) / (2 * w) ≡ t
distance_halved w x y t o e =
    let f : 2 * (w * y) - 2 * (w * x) ≡ t * (2 * w) = rw e (omega arith) in
    rw f (mul-div_cancel t (omega arith))

-- How far twice the weight times two numbers are apart, over twice the weight, is how far the numbers are apart.
distance_is : (w x y : ℕ) → 1 ≤ w → ((2 * (w * x) - 2 * (w * y)) + (2 * (w * y) - 2 * (w * x))) / (2 * w) ≡ (x - y) + (y - x)
distance_is w x y o = elim (dec_le x y) [
  | yes l ↦
      let a : (2 * (w * x) - 2 * (w * y)) + (2 * (w * y) - 2 * (w * x)) ≡ 2 * (w * y) - 2 * (w * x) = omega (arith, mul-le-mul_left w l) in
      let b : y - x ≡ (x - y) + (y - x) = omega arith in
      rw a (distance_halved w x y (y - x) o (omega arith) ∙ b)
  | no l ↦
      let m : y ≤ x = omega arith in
      let a : (2 * (w * x) - 2 * (w * y)) + (2 * (w * y) - 2 * (w * x)) ≡ 2 * (w * x) - 2 * (w * y) = omega (arith, mul-le-mul_left w m) in
      let b : x - y ≡ (x - y) + (y - x) = omega arith in
      rw a (distance_halved w y x (x - y) o (omega arith) ∙ b)
]

-- A stream of weight 0.
nothing : (w y : ℕ) → w ≡ 0 → 0 ≡ capped (w * y)
nothing w y e = let z : 0 * y ≡ 0 = omega arith in rw (e, z) refl

-- The quotient of a row: far is how far twice the weight times the amount is from what the row holds, by is the divisor.
module _ (w x R pull far by : ℕ) (e : pull ≡ 2 * (w * R)) (f : far ≡ (2 * (w * x) - pull) + (pull - 2 * (w * x))) (g : 1 ≤ 2 * w → by ≡ 2 * w) where
  -- With a weight it is how far the amount is from the reading;
  pub quotient_is : 1 ≤ w → far / by ≡ (x - R) + (R - x)
  quotient_is some = rw (g (omega arith), f, e) (distance_is w x R some)

  -- with weight 0 it is 0.
  pub quotient_none : w ≡ 0 → far / by ≡ 0
  quotient_none none =
      let z : far ≡ 0 = f ∙ rw (e, none) (omega arith) in
      rw z (zero-div by)

  -- So where it is large there is a weight.
  pub has_weight : safe_root < far / by → 1 ≤ w
  has_weight h = elim (dec_le 1 w) [
    | yes some ↦ some
    | no less ↦ let none : w ≡ 0 = omega arith in absurd (omega (arith, quotient_none none))
  ]

  -- What the row costs, by the quotient.
  pub quotient_cost : capped (w * (far / by * (far / by))) ≡ capped (w * distance_squared x R)
  quotient_cost = elim (dec_le 1 w) [
    | yes some ↦ ap (λ (k : ℕ). capped (w * (k * k))) (quotient_is some)
    | no less ↦ let none : w ≡ 0 = omega arith in sym (nothing w (far / by * (far / by)) none) ∙ nothing w (distance_squared x R) none
  ]

-- How far a held amount is from a held reading is the size of the correction.
distance_size : (x : ℕ) (z : ℤ) → nat_abs z ≤ flow_shift → (x - shifted z) + (shifted z - x) ≡ nat_abs (unshifted x -ℤ z)
distance_size x z h =
    let d = unshifted x -ℤ z in
    let a = minus_val (unshifted x) z in
    let b = unshifted_val x in
    let c = held_val z h in
    let s = size_val d in
    ⊎_elim (λ k. omega arith) (λ k. omega arith) (parts d)

-- A stream's cost by its weight and its reading as they are held.
pub row_cost_is : (s : Stream) → WithinStream max_units s → (x : ℕ) → capped (weight_of s * distance_squared x (reading_of s)) ≡ capped (stream_cost s (unshifted x))
row_cost_is s w x = by_cases s.metered
    (λ m. let e : weight_of s ≡ s.weight = rw m refl in
    rw e (metered_cost s (unshifted x) m _ (distance_size x s.reading (omega (arith, w.within_range m)))))
    (λ m. let e : weight_of s ≡ 0 = rw m refl in sym (nothing (weight_of s) _ e) ∙ unmetered_cost s (unshifted x) m)

-- The first n of amounts that are opened.
pub take_opened : (n : ℕ) (xs : List ℕ) → take n (map unshifted xs) ≡ opened n xs
take_opened zero xs = refl
take_opened (suc n) [] = refl
take_opened (suc n) (x ∷ xs) = ap (λ (l : List ℤ). unshifted x ∷ l) (take_opened n xs)

-- The row of a stream has its reading.
pub row_reads : (p : Plant) {ls rs : List ℕ} → LaidOf p ls rs → (i : ℕ) → i < p.count
    → get_or rs (4 * i + 1) 0 ≡ 2 * (get_or rs (4 * i) 0 * reading_of (get_or p.streams i no_stream))
row_reads p w i h = pull_at w i h ∙ ap (λ (v : ℕ). 2 * (v * reading_of (get_or p.streams i no_stream))) (sym (weight_at w i h))

-- A plant and all its amounts, as they are held.
module _ (p : Plant) {ls rs : List ℕ} (w : LaidOf p ls rs) (xs : List ℕ) (a : Amounts xs) (l : length xs ≡ max_streams) where
  -- The plant is accepted, and its amounts are small.
  pub costed : Costed p (map unshifted xs)
  costed = record {
    accepted = w.accepted;
    amounts = length-map xs unshifted ∙ l;
    small = λ k h. rw (map_at unshifted xs k (pos 0) 0 (omega arith)) (opened_small (get_or xs k 0) (a k h));
  }

  -- One stream more, by its row.
  module _ {sum i : ℕ} (r : Summed p (map unshifted xs) sum i) (h : i < p.count) where
    abbrev s : Stream
    s = get_or p.streams i no_stream

    amount : amount_at (map unshifted xs) i ≡ unshifted (get_or xs i 0)
    amount = map_at unshifted xs i (pos 0) 0 (omega (arith, w.accepted.within.few_streams))

    -- With the next stream's cost added, as its row gives it, one stream more is summed up.
    pub held_more : (k new : ℕ)
        → ((R : ℕ) → get_or rs (4 * i + 1) 0 ≡ 2 * (get_or rs (4 * i) 0 * R) → k ≡ capped (get_or rs (4 * i) 0 * distance_squared (get_or xs i 0) R))
        → new ≡ capped (sum + k) → Summed p (map unshifted xs) new (i + 1)
    held_more k new e f = summed_more costed r h k new (costs ∙ ap (λ (z : ℤ). capped (stream_cost s z)) (sym amount)) f
      where
        costs : k ≡ capped (stream_cost s (unshifted (get_or xs i 0)))
        costs =
            e (reading_of s) (row_reads p w i h)
            ∙ ap (λ (v : ℕ). capped (v * distance_squared (get_or xs i 0) (reading_of s))) (weight_at w i h)
            ∙ row_cost_is s (stream_within p w.accepted i h) (get_or xs i 0)

  -- After the last the sum is the cost of the flow that is held, as it is written.
  pub held_all : {sum i : ℕ} → Summed p (map unshifted xs) sum i → p.count ≤ i → sum ≡ capped (cost (plant_of p).streams (opened p.count xs))
  held_all r h = summed_all costed r h ∙ ap (λ (ys : List ℤ). capped (cost (plant_of p).streams ys)) (take_opened p.count xs)
