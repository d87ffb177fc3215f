-- The list of a plant's A streams: it is one, in order, and holds each of them once.
use mathlib.Core.Path.{◌≡◌, sym, ◌∙◌, ap}
use mathlib.Core.Bool.{Bool, true, ◌&&◌, ◌||◌}
use mathlib.Core.Logic.{◌⊎◌, inl, inr}
use Prim.Native.Nat.{ℕ, suc, ◌≤◌, ◌<◌}
use native.Mathlib.Omega.{arith}
use native.Mathlib.Decide.{dec_le}
use lib.Dec.{eqb, ltb}
use lib.ListN.{length, get_or}
use lib.Seq.{ext_get_or}
use Rattle.num_bytes.proofs.Tests.{by_cases}
use Rattle.plant_def.specs.Limits.{max_streams}
use Rattle.plant_def.specs.Plants.{Plant}
use Rattle.num_bytes.specs.Sums.{count_to}
use Rattle.num_bytes.proofs.Counts.{count_same}
use Rattle.visit_def.specs.Results.{Visits}
use Rattle.visit_def.specs.Visits.{is_listed, comes_first, place_of, Ordered}
use Rattle.flow_def.proofs.Places.{key_of, by_key, below_to, Different, below_few, distinct, rises, taken}

module _ (p : Plant) (few : length p.streams ≤ max_streams) (costs : ℕ → ℕ) where
  abbrev n : ℕ
  n = length p.streams

  place_is : (k : ℕ) → k < n → place_of p costs k ≡ below_to n (is_listed p) (key_of costs) (key_of costs k)
  place_is k l =
      count_same n (λ j. is_listed p j && comes_first costs j k) (λ j. is_listed p j && ltb (key_of costs j) (key_of costs k))
      (λ j m. ap (λ (b : Bool). is_listed p j && b) (by_key costs j k (omega arith) (omega arith)))

  different : Different n (key_of costs)
  different i j l m e = omega arith

  -- A place is below the count of the listed.
  pub place_low : (k : ℕ) → k < n → is_listed p k ≡ true → place_of p costs k < count_to n (is_listed p)
  place_low k l t = rw (place_is k l) (below_few (is_listed p) (key_of costs) n k l t)

  -- No two listed streams have one place.
  pub place_apart : (j k : ℕ) → j < n → k < n → is_listed p j ≡ true → is_listed p k ≡ true → place_of p costs j ≡ place_of p costs k → j ≡ k
  place_apart j k l m s t e = distinct (is_listed p) (key_of costs) n j k different l m s t (sym (place_is j l) ∙ e ∙ place_is k m)

  -- Every place is some listed stream's.
  pub place_taken : (i : ℕ) → i < count_to n (is_listed p) → (k : ℕ) × (k < n) × (is_listed p k ≡ true) × (place_of p costs k ≡ i)
  place_taken i h = let f = taken (is_listed p) (key_of costs) n different i h in (f.0, f.1, f.2, place_is f.0 f.1 ∙ f.3)

  module _ (r : Visits) (o : Ordered p costs r) where
    -- What stands at a place.
    pub stands : (i : ℕ) → i < r.count → (k : ℕ) × (k < n) × (is_listed p k ≡ true) × (place_of p costs k ≡ i) × (get_or r.streams i 0 ≡ suc k) × (get_or r.costs i 0 ≡ costs k)
    stands i h =
        let f = place_taken i (omega (arith, o.count)) in
        let e = o.each f.0 f.1 f.2 in
        (f.0, f.1, f.2, f.3, ap (λ (j : ℕ). get_or r.streams j 0) (sym f.3) ∙ e.0, ap (λ (j : ℕ). get_or r.costs j 0) (sym f.3) ∙ e.1)

    -- At less cost, or at as much and of the lower number.
    pub in_order : (i j : ℕ) → i < j → j < r.count
        → (get_or r.costs i 0 < get_or r.costs j 0) ⊎ ((get_or r.costs i 0 ≡ get_or r.costs j 0) × (get_or r.streams i 0 < get_or r.streams j 0))
    in_order i j h l =
        let x = stands i (omega arith) in
        let y = stands j l in
        let up = rises (is_listed p) (key_of costs) n x.0 y.0 x.1 y.1 y.2
        (omega (arith, x.3, y.3, place_is x.0 x.1, place_is y.0 y.1)) in
        let a = x.1 in
        let b = y.1 in
        elim (dec_le (suc (costs x.0)) (costs y.0)) [
          | yes q ↦ inl (omega (arith, x.5, y.5, q))
          | no q ↦ inr (omega (arith, x.5, y.5, q, up, a, b, few), omega (arith, x.4, y.4, q, up, a, b, few))
        ]

  -- One list alone.
  pub one_list : (r s : Visits) → Ordered p costs r → Ordered p costs s → r ≡ s
  one_list r s x y = λ i. record { number = (x.number ∙ sym y.number) i; count = counts i; streams = streams i; costs = costs_same i }
    where
      counts : r.count ≡ s.count
      counts = x.count ∙ sym y.count

      at : (i : ℕ) → (get_or r.streams i 0 ≡ get_or s.streams i 0) × (get_or r.costs i 0 ≡ get_or s.costs i 0)
      at i = elim (dec_le r.count i) [
        | yes h ↦
            let a = x.past i h in
            let b = y.past i (omega (arith, counts)) in
            (a.0 ∙ sym b.0, a.1 ∙ sym b.1)
        | no h ↦
            let f = place_taken i (omega (arith, x.count)) in
            let a = x.each f.0 f.1 f.2 in
            let b = y.each f.0 f.1 f.2 in (
              ap (λ (j : ℕ). get_or r.streams j 0) (sym f.3) ∙ a.0 ∙ sym b.0 ∙ ap (λ (j : ℕ). get_or s.streams j 0) f.3,
              ap (λ (j : ℕ). get_or r.costs j 0) (sym f.3) ∙ a.1 ∙ sym b.1 ∙ ap (λ (j : ℕ). get_or s.costs j 0) f.3,
            )
      ]

      streams : r.streams ≡ s.streams
      streams = ext_get_or 0 r.streams s.streams (x.long.0 ∙ sym y.long.0) (λ i l. (at i).0)

      costs_same : r.costs ≡ s.costs
      costs_same = ext_get_or 0 r.costs s.costs (x.long.1 ∙ sym y.long.1) (λ i l. (at i).1)

-- Costs that are the same of the listed streams give the same list.
module _ (p : Plant) (a b : ℕ → ℕ) (same : (k : ℕ) → k < length p.streams → is_listed p k ≡ true → a k ≡ b k) where
  places_same : (k : ℕ) → k < length p.streams → is_listed p k ≡ true → place_of p a k ≡ place_of p b k
  places_same k l t =
      count_same (length p.streams) (λ j. is_listed p j && comes_first a j k) (λ j. is_listed p j && comes_first b j k)
      (λ j m. by_cases (is_listed p j)
      (λ s. rw s (ap (λ (x : ℕ). ltb x (a k) || (eqb x (a k) && ltb j k)) (same j m s) ∙ ap (λ (x : ℕ). ltb (b j) x || (eqb (b j) x && ltb j k)) (same k l t)))
      (λ s. rw s))

  -- The order is the same by costs that agree.
  pub ordered_by : (r : Visits) → Ordered p a r → Ordered p b r
  ordered_by r o = record {
    number = o.number;
    count = o.count;
    long = o.long;
    each = λ k l t.
        let e = o.each k l t in
        (ap (λ (j : ℕ). get_or r.streams j 0) (sym (places_same k l t)) ∙ e.0, ap (λ (j : ℕ). get_or r.costs j 0) (sym (places_same k l t)) ∙ e.1 ∙ same k l t);
    past = o.past;
  }
