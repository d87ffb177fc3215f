-- What a purchase costs at most: a best set leaves a stream unmetered.
use mathlib.Core.Path.{◌≡◌, refl, sym, ap, ◌∙◌}
use mathlib.Core.Bool.{Bool, true, false, not}
use mathlib.Core.List.{List}
use Prim.Native.Nat.{ℕ, zero, suc, ◌+◌, ◌-◌, ◌*◌, ◌≤◌, ◌<◌}
use native.Mathlib.Omega.{arith}
use native.Mathlib.Decide.{ℕ_discrete}
use borrow.Author.Tests.{lt-ltb, le-ltb, ltb-false, eqb-false, not-true}
use lib.Dec.{ltb, eqb}
use lib.ListN.{length}
use Rattle.num_bytes.specs.Inner.{values}
use Rattle.num_bytes.proofs.Tests.{by_cases, and_left, and_right}
use Rattle.plant_def.specs.Limits.{max_streams}
use Rattle.plant_def.specs.Plants.{Plant}
use Rattle.plant_def.specs.Within.{Within}
use Rattle.flow_def.specs.Flows.{stream_at}
use Rattle.flow_def.specs.Chains.{Chain}
use Rattle.num_bytes.proofs.Lists.{values_long, values_at}
use Rattle.flow_def.specs.Loops.{but, left}
use Rattle.flow_def.specs.Metering.{chosen}
use Rattle.flow_def.proofs.Left.{left→none}
use Rattle.purchase_def.specs.Purchases.{max_price, price_in, prices_fault, prices_to, price_of, Serves, Best}
use Rattle.purchase_def.proofs.Sets.{sum_most, fair_at, prices_same}

-- What a set costs at most that leaves stream j out.
sum_without : (n m j : ℕ) (test : ℕ → Bool) (price : ℕ → ℕ) → ((k : ℕ) → k < n → test k ≡ true → price k ≤ m) → j < n → test j ≡ false
    → prices_to n test price + m ≤ n * m
sum_without zero m j test price h l t = absurd (omega arith)
sum_without (suc n) m j test price h l t = elim (ℕ_discrete j n) [
  | yes e ↦ let z : test n ≡ false = ap test (sym e) ∙ t in rw z (omega (arith, sum_most n m test price (λ k l. h k (omega arith))))
  | no e ↦ let less = sum_without n m j test price (λ k l. h k (omega arith)) (omega arith) t in
      by_cases (test n) (λ u. rw u (omega (arith, h n (omega arith) u, less))) (λ u. rw u (omega (arith, less)))
]

-- One of the first n fails a test, or all pass it.
data Some (n : ℕ) (test : ℕ → Bool) : Type 0 where
  fails : (j : ℕ) → j < n → test j ≡ false → Some n test
  passes : ((j : ℕ) → j < n → test j ≡ true) → Some n test

some_of : (n : ℕ) (test : ℕ → Bool) → Some n test
some_of zero test = passes (λ j l. absurd (omega arith))
some_of (suc n) test = by_cases (test n) (λ t. go t (some_of n test)) (λ t. fails n (omega arith) t)
  where
    go : test n ≡ true → Some n test → Some (suc n) test
    go t (fails j l u) = fails j (omega arith) u
    go t (passes h) = passes (λ j l. elim (ℕ_discrete j n) [
      | yes e ↦ ap test e ∙ t
      | no e ↦ h j (omega arith)
    ])

-- A plant of unmetered streams alone.
module _ (p : Plant) (w : Within p) (m : ℕ) (many : length p.streams ≡ suc m) where
  -- All streams but the last.
  others : List Bool
  others = values (suc m) (λ k. ltb k m)

  others_long : length others ≡ suc m
  unfolding others
  others_long = values_long (λ k. ltb k m) (suc m)

  in_others : (k : ℕ) → k < suc m → chosen others k ≡ ltb k m
  unfolding others
  in_others k l = values_at (λ k. ltb k m) false (suc m) k l

  -- Of the streams left there is one alone, which makes no loop.
  alone : (k : ℕ) → k < length p.streams → left others k (stream_at p.streams k) ≡ true → k ≡ m
  alone k l e =
      let u = and_right (not (stream_at p.streams k).metered) (not (chosen others k)) e in
      let z : ltb k m ≡ false = sym (in_others k (omega arith)) ∙ not-true (chosen others k) u in
      let q = ltb-false k m z in
      omega arith

  none_else : (i k : ℕ) → i ≡ m → k < length p.streams → but i (left others) k (stream_at p.streams k) ≡ true → ⊥
  none_else i k z l e =
      let a = alone k l (and_left (left others k (stream_at p.streams k)) (not (eqb k i)) e) in
      eqb-false k i (not-true (eqb k i) (and_right (left others k (stream_at p.streams k)) (not (eqb k i)) e)) (a ∙ sym z)

  no_chain : (i : ℕ) → i ≡ m → {a b : ℕ} → Chain (but i (left others)) p.streams a b → a ≡ b
  no_chain i z Chain.stop = refl
  no_chain i z (Chain.along k l e c) = absurd (none_else i k z l e)
  no_chain i z (Chain.back k l e c) = absurd (none_else i k z l e)

  others_serve : ((k : ℕ) → k < length p.streams → (stream_at p.streams k).metered ≡ false) → Serves p others
  others_serve bare = record {
    long = others_long ∙ sym many;
    unmetered = λ k l e. bare k l;
    none = left→none others p w (λ i l e c. (w.each i l).distinct (no_chain i (alone i l e) c));
  }

  -- They cost less by the last stream's price.
  others_cost : (price : ℕ → ℕ) (set : List Bool) → length set ≡ suc m → ((k : ℕ) → k < suc m → chosen set k ≡ true)
      → price_of price set ≡ price m + price_of price others
  others_cost price set long all =
      let out : chosen others m ≡ false = in_others m (omega arith) ∙ le-ltb m m (omega arith) in
      let same : prices_to m (chosen set) price ≡ prices_to m (chosen others) price =
      prices_same m (chosen set) (chosen others) price price (λ k l. all k (omega arith) ∙ sym (in_others k (omega arith) ∙ lt-ltb k m l)) (λ k l. refl) in
      rw (long, others_long, all m (omega arith), out, same) (omega arith)

-- A best set leaves a stream out.
pub price_most : (p : Plant) → Within p → (prices : List ℕ) → prices_fault p prices ≡ 0 → (set : List Bool) → Best p (price_in p.streams prices) set
    → price_of (price_in p.streams prices) set ≤ (max_streams - 1) * max_price
price_most p w prices z set b = go (length p.streams) refl
  where
    go : (n : ℕ) → length p.streams ≡ n → price_of (price_in p.streams prices) set ≤ (max_streams - 1) * max_price
    go zero e = let l : length set ≡ 0 = b.serves.long ∙ e in rw l (omega arith)
    go (suc m) e = by (some_of (suc m) (chosen set))
      where
        long : length set ≡ suc m
        long = b.serves.long ∙ e

        dear : (k : ℕ) → k < suc m → chosen set k ≡ true → price_in p.streams prices k ≤ max_price
        dear k l t = (fair_at p prices z k (omega arith) (b.serves.unmetered k (omega arith) t)).1

        by : Some (suc m) (chosen set) → price_of (price_in p.streams prices) set ≤ (max_streams - 1) * max_price
        by (fails j l t) = rw long (let f = w.few_streams in omega (arith, sum_without (suc m) max_price j (chosen set) (price_in p.streams prices) dear l t))
        by (passes all) =
            let bare : (k : ℕ) → k < length p.streams → (stream_at p.streams k).metered ≡ false = λ k l. b.serves.unmetered k l (all k (omega arith)) in
            let last = (fair_at p prices z m (omega arith) (bare m (omega arith))).0 in
            absurd (omega (arith, last, b.least (others p w m e) (others_serve p w m e bare), others_cost p w m e (price_in p.streams prices) set long all))
