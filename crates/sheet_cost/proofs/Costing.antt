-- What flows cost, as it is written: stream by stream, and summed up.
use mathlib.Core.Path.{◌≡◌, refl, sym, ap, ◌∙◌}
use mathlib.Core.Bool.{true, false}
use mathlib.Core.Logic.{⊎_elim}
use mathlib.Core.List.{List, [], ◌∷◌}
use lib.IntN.{ℤ, pos, negsuc, nat_abs, ◌-ℤ◌, ◌*ℤ◌}
use Prim.Native.Nat.{ℕ, suc, ◌+◌, ◌*◌, ◌/◌, ◌^◌, ◌≤◌, ◌<◌}
use native.Mathlib.Omega.{arith}
use native.Mathlib.Decide.{dec_le}
use native.Mathlib.Numerals.{add-one}
use native.Mathlib.Nat.{mul-le-mul, mul-le-mul_right, div-lt_iff_lt-mul, le-div_iff_mul-le}
use lib.ListN.{length, get_or, take, drop, drop_of_length-le}
use lib.Seq.{drop-cons, get_or-take, length-take-le}
use mir.Syntax.{w32, w64}
use mir.Val.{SFits, to_z, of_z}
use mir.ValLaws.{to_z-of_z}
use borrow.Author.Rules.{sfits_of}
use Rattle.plant_def.specs.declared.Stream.{Stream}
use Rattle.plant_def.specs.declared.Plant as Arrays
use Rattle.plant_def.specs.Plants.{no_stream}
use Rattle.plant_def.specs.Says.{plant_of}
use Rattle.plant_def.specs.Limits.{max_units, max_streams, max_weight}
use Rattle.plant_def.specs.Within.{WithinStream, Accepted}
use Rattle.plant_def.proofs.Arrayed.{all_listed, listed_at, stream_within}
use Rattle.flow_def.specs.Flows.{stream_at, amount_at, cost}
use Rattle.num_bytes.proofs.Integers.{size_val, minus_val, parts, one_times}
use Rattle.solve_def.proofs.Weights.{wide}
use Rattle.sheet_def.specs.Totals.{top_cost, capped}
use Rattle.sheet_def.specs.Calls.{Small, AllSmall, stream_cost}
use Rattle.sheet_def.proofs.Capped.{capped_below, capped_above, capped_most}
use Rattle.sheet_cost.specs.Rows.{safe_root}

-- A number of size below 2^63 fits 64 bits.
pub size_fits : (z : ℤ) → 2 * nat_abs z < 2 ^ 64 → SFits w64 z
size_fits (pos a) h = sfits_of (omega arith)
size_fits (negsuc a) h = sfits_of (omega arith)

-- A reading of 32 bits is of size 2^31 at most.
pub reading_size : (z : ℤ) → SFits w32 z → nat_abs z ≤ 2 ^ 31
reading_size (pos a) f = omega (arith, f.sfits)
reading_size (negsuc a) f = omega (arith, f.sfits)

-- The size of a difference is at most the sum of the sizes.
pub minus_size : (x z : ℤ) → nat_abs (x -ℤ z) ≤ nat_abs x + nat_abs z
minus_size x z =
    let d = x -ℤ z in
    let a = minus_val x z in
    let l = size_val x in
    let m = size_val z in
    let n = size_val d in
    ⊎_elim (λ k. omega arith) (λ k. omega arith) (parts d)

-- A correction fits 64 bits.
pub correction_fits : (x z : ℤ) → Small x → SFits w32 z → SFits w64 (x -ℤ z)
correction_fits x z h f = size_fits (x -ℤ z) (omega (arith, minus_size x z, reading_size z f))

-- A flow less a reading, as the code has them.
pub correction_is : (x z : ℤ) → SFits w64 x → SFits w32 z → to_z w64 (of_z w64 x) -ℤ to_z w64 (of_z w64 (to_z w32 (of_z w32 z))) ≡ x -ℤ z
correction_is x z f g = rw (to_z-of_z w64 x f, to_z-of_z w32 z g, to_z-of_z w64 z (wide z g)) refl

-- Weight times the square of a safe root: the product fits,
pub safe_fits : (w d : ℕ) → w ≤ max_weight → d ≤ safe_root → w * (d * d) ≤ top_cost
safe_fits w d l h =
    let q : d * d ≤ safe_root * safe_root = mul-le-mul h h in
    omega (arith, mul-le-mul l q)

-- and is written as it is.
pub safe_is : (w d : ℕ) → w ≤ max_weight → d ≤ safe_root → w * (d * d) ≡ capped (w * (d * d))
safe_is w d l h = sym (capped_below (w * (d * d)) (safe_fits w d l h))

-- Weight times a square, as it is written: one whose root is too great, one that is too great, and one that fits.
module _ (w d : ℕ) (l : 1 ≤ w) where
  -- A root of 2^32 or more: the greatest that is written.
  pub root_above : 2 ^ 32 ≤ d → top_cost ≡ capped (w * (d * d))
  root_above h =
      let q : 2 ^ 32 * 2 ^ 32 ≤ d * d = mul-le-mul h h in
      sym (capped_above (w * (d * d)) (omega (arith, mul-le-mul_right (d * d) l)))

  -- A square that is too great: the greatest, too.
  pub square_above : top_cost / w < d * d → top_cost ≡ capped (w * (d * d))
  square_above h = sym (capped_above (w * (d * d)) (omega (arith, (div-lt_iff_lt-mul {k = w} {x = top_cost} {y = d * d} l).0 h)))

  -- One that is not: the product fits,
  pub square_fits : d * d ≤ top_cost / w → w * (d * d) ≤ top_cost
  square_fits h = omega (arith, (le-div_iff_mul-le {k = w} {x = d * d} {y = top_cost} l).0 h)

  -- and is written as it is.
  pub square_below : d * d ≤ top_cost / w → w * (d * d) ≡ capped (w * (d * d))
  square_below h = sym (capped_below (w * (d * d)) (square_fits h))

-- A part of a sum may be capped before the sum is.
pub capped_add : (a c : ℕ) → capped (capped a + c) ≡ capped (a + c)
capped_add a c = elim (dec_le a top_cost) [
  | yes h ↦ ap (λ (k : ℕ). capped (k + c)) (capped_below a h)
  | no h ↦ capped_above (capped a + c) (omega (arith, capped_above a (omega arith))) ∙ sym (capped_above (a + c) (omega arith))
]

-- A stream's cost, and the sum up to it, may be capped before the rest is added.
pub capped_sum : (a b c : ℕ) → capped (capped (a + capped b) + c) ≡ capped (a + (b + c))
capped_sum a b c =
    let e : a + capped b + c ≡ capped b + (a + c) = omega arith in
    let f : b + (a + c) ≡ a + (b + c) = omega arith in
    capped_add (a + capped b) c ∙ ap capped e ∙ capped_add b (a + c) ∙ ap capped f

-- What a metered stream costs, and an unmetered one.
module _ (s : Stream) (x : ℤ) where
  -- An unmetered stream costs nothing.
  pub unmetered_cost : s.metered ≡ false → 0 ≡ capped (stream_cost s x)
  unmetered_cost m = rw m

  -- A metered one costs its weight times the square of its correction.
  pub metered_cost : s.metered ≡ true → (d : ℕ) → d ≡ nat_abs (x -ℤ s.reading) → capped (s.weight * (d * d)) ≡ capped (stream_cost s x)
  metered_cost m d e = let q : d ≡ nat_abs (x -ℤ pos 1 *ℤ s.reading) = e ∙ ap (λ (y : ℤ). nat_abs (x -ℤ y)) (sym (one_times s.reading)) in rw (m, q)

-- The cost of the streams from i on.
cost_at : (ss : List Stream) (xs : List ℤ) (i : ℕ) → i < length ss → i < length xs
    → cost (drop i ss) (drop i xs) ≡ cost (stream_at ss i ∷ []) (amount_at xs i ∷ []) + cost (drop (suc i) ss) (drop (suc i) xs)
cost_at ss xs i h l = rw (drop-cons ss i no_stream h, drop-cons xs i (pos 0) l) (omega arith)

-- A plant and all its amounts, each of them small.
pub record Costed (p : Arrays.Plant) (xs : List ℤ) : Type 0 where
  pub accepted : Accepted p
  pub amounts : length xs ≡ max_streams
  pub small : AllSmall xs

-- i streams summed up: with the rest they make up the whole, as it is written.
pub record Summed (p : Arrays.Plant) (xs : List ℤ) (sum i : ℕ) : Type 0 where
  pub within : i ≤ p.count
  pub most : sum ≤ top_cost
  pub rest : capped (cost (plant_of p).streams (take p.count xs)) ≡ capped (sum + cost (drop i (plant_of p).streams) (drop i (take p.count xs)))

-- Before the first stream the sum is 0.
pub summed_none : (p : Arrays.Plant) (xs : List ℤ) → Summed p xs 0 0
summed_none p xs = record {
  within = omega arith;
  most = omega arith;
  rest = let e : cost (plant_of p).streams (take p.count xs) ≡ 0 + cost (plant_of p).streams (take p.count xs) = omega arith in ap capped e;
}

module _ {p : Arrays.Plant} {xs : List ℤ} {sum i : ℕ} (c : Costed p xs) (r : Summed p xs sum i) where
  sized : length (take p.count xs) ≡ p.count
  sized = let a = c.amounts in let b = c.accepted.within.few_streams in length-take-le p.count xs (omega arith)

  module _ (more : i < p.count) where
    next : cost (drop i (plant_of p).streams) (drop i (take p.count xs))
        ≡ stream_cost (get_or p.streams i no_stream) (amount_at xs i) + cost (drop (suc i) (plant_of p).streams) (drop (suc i) (take p.count xs))
    next =
        let l = all_listed p c.accepted in
        let z = sized in
        cost_at (plant_of p).streams (take p.count xs) i (omega arith) (omega arith)
        ∙ ap (λ (k : ℕ). k + cost (drop (suc i) (plant_of p).streams) (drop (suc i) (take p.count xs))) one
      where
        one : cost (stream_at (plant_of p).streams i ∷ []) (amount_at (take p.count xs) i ∷ []) ≡ stream_cost (get_or p.streams i no_stream) (amount_at xs i)
        one = rw (listed_at p c.accepted i more, get_or-take p.count xs i (pos 0) more) (omega arith)

    -- The next stream is within its limits, and its amount is small.
    pub next_fits : WithinStream max_units (get_or p.streams i no_stream) × Small (amount_at xs i)
    next_fits = (stream_within p c.accepted i more, c.small i (omega (arith, c.accepted.within.few_streams)))

    -- With the next stream's cost added, one stream more is summed up.
    pub summed_more : (k new : ℕ) → k ≡ capped (stream_cost (get_or p.streams i no_stream) (amount_at xs i)) → new ≡ capped (sum + k) → Summed p xs new (i + 1)
    summed_more k new e f = record {
      within = omega arith;
      most = rw f (capped_most (sum + k));
      rest =
          rw (add-one i, f, e)
          (r.rest
          ∙ ap (λ (q : ℕ). capped (sum + q)) next
          ∙ sym (capped_sum sum (stream_cost (get_or p.streams i no_stream) (amount_at xs i)) _));
    }

  -- After the last the sum is the cost of the flow, as it is written.
  pub summed_all : p.count ≤ i → sum ≡ capped (cost (plant_of p).streams (take p.count xs))
  summed_all h =
      let l = all_listed p c.accepted in
      let none : drop i (plant_of p).streams ≡ [] = drop_of_length-le (plant_of p).streams {i = i} (omega arith) in
      let whole : sum + 0 ≡ sum = omega arith in
      sym (r.rest ∙ rw (none, whole) (capped_below sum r.most))
