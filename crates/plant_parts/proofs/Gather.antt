-- Gathering streams from their parts: how far every slice reaches, and one stream more in the array.
use mathlib.Core.Path.{◌≡◌, refl, sym, ap, ap₂, ◌∙◌, subst}
use mathlib.Core.Bool.{Bool, true, false, ◌&&◌}
use mathlib.Core.List.{List, [], ◌∷◌, ◌++◌}
use Prim.Native.Nat.{ℕ, zero, suc, ◌+◌, ◌<◌, ◌≤◌}
use native.Mathlib.Omega.{arith}
use native.Mathlib.Numerals.{add-one}
use lib.Dec.{ltb}
use lib.ListN.{length, get_or, take, set, length-append, get_or-append, get_or-eq_default}
use lib.Seq.{get_or_at, get_or-take, length-take-le, ext_get_or}
use borrow.Author.Tests.{lt-ltb, ltb-true, ltb-false}
use Rattle.num_bytes.proofs.Tests.{by_cases, clash, picked, same_test, and_left, and_right, and_both}
use Rattle.num_bytes.specs.Inner.{values}
use Rattle.num_bytes.proofs.Filled.{filled_at}
use Rattle.plant_def.specs.declared.Stream.{Stream}
use Rattle.plant_def.specs.Limits.{max_streams}
use Rattle.plant_def.specs.Plants.{no_stream}
use Rattle.plant_def.specs.Says.{padded}
use Rattle.plant_def.proofs.Held.{length_padded, padded_more, get_d_padded}
use Rattle.num_bytes.proofs.Lists.{values_long, values_at}
use Rattle.plant_parts.specs.Parts.{Slices, parts_at, reaches, handed, least, reach, listed_to}
use Rattle.plant_parts.specs.Inner.{meter_at, range_at}

-- The lesser is no more than the first,
pub least_left : (a b : ℕ) → least a b ≤ a
least_left a b = picked (λ k. k ≤ a) (ltb a b) a b (λ t. omega arith) (λ f. ltb-false a b f)

-- nor than the second.
pub least_right : (a b : ℕ) → least a b ≤ b
least_right a b = picked (λ k. k ≤ b) (ltb a b) a b (λ t. omega (arith, ltb-true a b t)) (λ f. omega arith)

-- So many streams are in the array and in every slice.
pub record Reached (p : Slices) (n : ℕ) : Type 0 where
  pub room : n ≤ max_streams
  pub from_there : n ≤ length p.from
  pub to_there : n ≤ length p.to
  pub metered_there : n ≤ length p.metered
  pub weight_there : n ≤ length p.weight
  pub reading_there : n ≤ length p.reading
  pub ranged_there : n ≤ length p.ranged
  pub low_there : n ≤ length p.low
  pub high_there : n ≤ length p.high

-- How far the slices of a part reach: ends, weights and readings, all of a meter; low and high, all of a range.
abbrev ends_to : Slices → ℕ
ends_to p = least (length p.from) (length p.to)

abbrev meter_to : Slices → ℕ
meter_to p = least (length p.weight) (length p.reading)

abbrev meters_to : Slices → ℕ
meters_to p = least (ends_to p) (least (length p.metered) (meter_to p))

abbrev range_to : Slices → ℕ
range_to p = least (length p.low) (length p.high)

abbrev ranges_to : Slices → ℕ
ranges_to p = least (length p.ranged) (range_to p)

-- Every slice reaches so many streams.
pub reached : (p : Slices) (n : ℕ) → n ≡ reach p → Reached p n
reached p n e =
    let all : n ≤ least (meters_to p) (ranges_to p) = omega (arith, least_right max_streams (least (meters_to p) (ranges_to p))) in
    let m : n ≤ meters_to p = omega (arith, least_left (meters_to p) (ranges_to p)) in
    let r : n ≤ ranges_to p = omega (arith, least_right (meters_to p) (ranges_to p)) in
    let s : n ≤ least (length p.metered) (meter_to p) = omega (arith, least_right (ends_to p) (least (length p.metered) (meter_to p))) in
    let f : n ≤ ends_to p = omega (arith, least_left (ends_to p) (least (length p.metered) (meter_to p))) in
    let w : n ≤ meter_to p = omega (arith, least_right (length p.metered) (meter_to p)) in
    let l : n ≤ range_to p = omega (arith, least_right (length p.ranged) (range_to p)) in
    record {
      room = omega (arith, least_left max_streams (least (meters_to p) (ranges_to p)));
      from_there = omega (arith, least_left (length p.from) (length p.to));
      to_there = omega (arith, least_right (length p.from) (length p.to));
      metered_there = omega (arith, least_left (length p.metered) (meter_to p));
      weight_there = omega (arith, least_left (length p.weight) (length p.reading));
      reading_there = omega (arith, least_right (length p.weight) (length p.reading));
      ranged_there = omega (arith, least_left (length p.ranged) (range_to p));
      low_there = omega (arith, least_left (length p.low) (length p.high));
      high_there = omega (arith, least_right (length p.low) (length p.high));
    }

module _ (f : ℕ → Stream) where
  length_listed : (k : ℕ) → length (listed_to f k) ≡ k
  length_listed zero = refl
  length_listed (suc k) = omega (arith, length-append (listed_to f k) (f k ∷ []), length_listed k)

  -- One stream more.
  pub one_more : (k : ℕ) (ss : List Stream) (s : Stream) → k < max_streams → ss ≡ padded max_streams (listed_to f k) → s ≡ f k
      → set ss k s ≡ padded max_streams (listed_to f (k + 1))
  one_more k ss s h e d =
      let done = listed_to f k in
      let l = length_listed k in
      ap (λ (x : List Stream). set x k s) e ∙ ap (set (padded max_streams done) k) d
      ∙ ap (λ (j : ℕ). set (padded max_streams done) j (f k)) (sym l)
      ∙ padded_more max_streams done (f k) (omega arith)
      ∙ ap (λ (j : ℕ). padded max_streams (listed_to f j)) (sym (add-one k))

  listed_at : (n k : ℕ) → k < n → get_or (listed_to f n) k no_stream ≡ f k
  listed_at zero k h = absurd (omega arith)
  listed_at (suc n) k h =
      by_cases (ltb k n)
      (λ t. let l : k < n = ltb-true k n t in get_or-append (listed_to f n) (f n ∷ []) no_stream k (omega (arith, length_listed n)) ∙ listed_at n k l)
      (λ t. let e : n ≡ k = omega (arith, ltb-false k n t) in subst (λ (j : ℕ). get_or (listed_to f n ++ (f n ∷ [])) j no_stream ≡ f j) e (get_or_at (listed_to f n) (f n) [] no_stream n (length_listed n)))

  -- The stream at a place of the array.
  pub gathered_at : (n k : ℕ) → n ≤ max_streams → k < n → get_or (padded max_streams (listed_to f n)) k no_stream ≡ f k
  gathered_at n k l h = let e = length_listed n in get_d_padded max_streams (listed_to f n) k (omega arith) (omega arith) ∙ listed_at n k h

-- The same streams, the same list.
pub listed_same : (f g : ℕ → Stream) (n : ℕ) → ((k : ℕ) → k < n → f k ≡ g k) → listed_to f n ≡ listed_to g n
listed_same f g zero e = refl
listed_same f g (suc n) e = ap₂ (λ (ss : List Stream) (s : Stream). ss ++ (s ∷ [])) (listed_same f g n (λ k l. e k (omega arith))) (e n (omega arith))

-- All streams that every slice reaches, gathered without their ranges and then with them.
pub all_gathered : (p : Slices) (n : ℕ) (ms : List Stream) → n ≡ reach p
    → ms ≡ padded max_streams (listed_to (meter_at p.from p.to p.metered p.weight p.reading) n)
    → padded max_streams (listed_to (λ k. range_at p.ranged p.low p.high (get_or ms k no_stream) k) n) ≡ padded max_streams (listed_to (parts_at p) (reach p))
all_gathered p n ms e d =
    ap (padded max_streams)
    (listed_same (λ k. range k (get_or ms k no_stream)) (parts_at p) n (λ k l. ap (range k) (ap (λ (ss : List Stream). get_or ss k no_stream) d ∙ gathered_at meter n k (reached p n e).room l)))
    ∙ ap (λ (j : ℕ). padded max_streams (listed_to (parts_at p) j)) e
  where
    meter : ℕ → Stream
    meter = meter_at p.from p.to p.metered p.weight p.reading

    range : ℕ → Stream → Stream
    range k s = range_at p.ranged p.low p.high s k

-- Every slice reaches the streams gathered, and no other.
pub reaches_is : (p : Slices) (k : ℕ) → k < max_streams → ltb k (reach p) ≡ reaches p k
reaches_is p k h =
    least_test k max_streams (least (meters_to p) (ranges_to p))
    ∙ ap (λ (b : Bool). b && ltb k (least (meters_to p) (ranges_to p))) (lt-ltb k max_streams h)
    ∙ least_test k (meters_to p) (ranges_to p)
    ∙ ap₂ ◌&&◌
    (least_test k (ends_to p) (least (length p.metered) (meter_to p))
    ∙ ap₂ ◌&&◌ (least_test k (length p.from) (length p.to))
    (least_test k (length p.metered) (meter_to p) ∙ ap (λ (b : Bool). ltb k (length p.metered) && b) (least_test k (length p.weight) (length p.reading)))
    ∙ and_assoc (ltb k (length p.from)) (ltb k (length p.to)) _)
    (least_test k (length p.ranged) (range_to p) ∙ ap (λ (b : Bool). ltb k (length p.ranged) && b) (least_test k (length p.low) (length p.high)))
  where
    least_test : (k a b : ℕ) → ltb k (least a b) ≡ ltb k a && ltb k b
    least_test k a b =
        same_test (ltb k (least a b)) (ltb k a && ltb k b)
        (λ t. let l = ltb-true k (least a b) t in
        and_both (ltb k a) (ltb k b) (lt-ltb k a (omega (arith, least_left a b))) (lt-ltb k b (omega (arith, least_right a b))))
        (λ t. let l = ltb-true k a (and_left (ltb k a) (ltb k b) t) in
        let m = ltb-true k b (and_right (ltb k a) (ltb k b) t) in
        lt-ltb k (least a b) (picked (λ j. k < j) (ltb a b) a b (λ u. l) (λ u. m)))

    and_assoc : (a b c : Bool) → (a && b) && c ≡ a && (b && c)
    and_assoc true b c = refl
    and_assoc false b c = refl

-- The streams of the array, up to a count within its limit, are those handed over.
pub handed_all : (p : Slices) (c : ℕ) → c ≤ max_streams → take c (padded max_streams (listed_to (parts_at p) (reach p))) ≡ values c (handed p)
handed_all p c h =
    let ss = listed_to (parts_at p) (reach p) in
    let long = length_padded max_streams ss in
    let size : length (take c (padded max_streams ss)) ≡ c = length-take-le c (padded max_streams ss) (omega arith) in
    ext_get_or no_stream (take c (padded max_streams ss)) (values c (handed p)) (size ∙ sym (values_long (handed p) c))
    (λ k l. let m : k < c = omega arith in get_or-take c (padded max_streams ss) k no_stream m ∙ at k (omega arith) ∙ sym (values_at (handed p) no_stream c k m))
  where
    at : (k : ℕ) → k < max_streams → get_or (padded max_streams (listed_to (parts_at p) (reach p))) k no_stream ≡ handed p k
    at k l =
        let n = reach p in
        let r = reached p n refl in
        by_cases (ltb k n)
        (λ t. gathered_at (parts_at p) n k r.room (ltb-true k n t) ∙ picked (λ (s : Stream). parts_at p k ≡ s) (reaches p k) (parts_at p k) no_stream (λ u. refl)
        (λ u. clash (ltb k n) t (reaches_is p k l ∙ u)))
        (λ t. let long = length_listed (parts_at p) n in
        let room = r.room in
        filled_at no_stream max_streams (listed_to (parts_at p) n) k (omega arith)
        ∙ get_or-eq_default (listed_to (parts_at p) n) no_stream (omega (arith, ltb-false k n t))
        ∙ picked (λ (s : Stream). no_stream ≡ s) (reaches p k) (parts_at p k) no_stream (λ u. clash (reaches p k) u (sym (reaches_is p k l) ∙ t)) (λ u. refl))
