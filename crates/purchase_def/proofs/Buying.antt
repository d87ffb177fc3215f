-- The streams bought: nothing stays withheld, no set that does so is cheaper, and of equally cheap ones it comes first.
use mathlib.Core.Path.{◌≡◌, sym, ◌∙◌, ap}
use mathlib.Core.Bool.{Bool, true, false, not, ◌&&◌}
use mathlib.Core.List.{List}
use Prim.Native.Nat.{ℕ, suc, ◌+◌, ◌-◌, ◌*◌, ◌≤◌, ◌<◌}
use native.Mathlib.Nat.{mul-le-mul_right}
use native.Mathlib.Omega.{arith}
use native.Mathlib.Decide.{dec_le}
use borrow.Author.Tests.{not-true, lt-ltb, leb-true, le-leb, lt-leb, ltb-true}
use lib.Dec.{ltb, leb}
use lib.ListN.{length}
use Rattle.num_bytes.proofs.Tests.{by_cases, and_left, same_test}
use Rattle.plant_def.specs.Plants.{Plant}
use Rattle.plant_def.specs.Within.{Within}
use Rattle.flow_def.specs.Flows.{stream_at}
use Rattle.num_bytes.proofs.Lists.{values_long, values_at}
use Rattle.flow_def.proofs.Nets.{inside}
use Rattle.num_bytes.specs.Sums.{count_to}
use Rattle.flow_def.specs.Loops.{left}
use Rattle.flow_def.specs.Metering.{chosen}
use Rattle.num_bytes.proofs.Counts.{one, count_same, count_strict, most, most_le}
use Rattle.flow_def.proofs.Left.{none→left, left→none}
use Rattle.purchase_def.specs.Purchases.{price_of, numbers_of, not_later, Serves, Best}
use Rattle.purchase_def.specs.Choosing.{before, bought, to_buy}
use Rattle.purchase_def.proofs.Layers.{sum_to, sum_le, sum_tight, layers, value, value_layer, ordered}
use Rattle.purchase_def.proofs.Keeping.{kept_free, buys_few, free_fewer, kept}
use Rattle.purchase_def.proofs.Firsts.{numbers_long, leads_first, Leads}

-- Each unmetered stream has a price, 1 or more.
abbrev pub Priced : Plant → (ℕ → ℕ) → Type 0
Priced p price = (k : ℕ) → k < length p.streams → (stream_at p.streams k).metered ≡ false → 1 ≤ price k

module _ (p : Plant) (w : Within p) (price : ℕ → ℕ) where
  abbrev n : ℕ
  n = length p.streams

  abbrev top : ℕ
  top = most (length p.streams) price

  bought_at : (k : ℕ) → k < n → chosen (to_buy p price) k ≡ bought p price k
  bought_at k l = values_at (bought p price) false n k l

  bought_unmetered : (k : ℕ) → k < n → chosen (to_buy p price) k ≡ true → (stream_at p.streams k).metered ≡ false
  bought_unmetered k l e = not-true _ (and_left (not (stream_at p.streams k).metered) _ (sym (bought_at k l) ∙ e))

  -- With it nothing is withheld.
  pub buying_serves : Serves p (to_buy p price)
  buying_serves = record {
    long = values_long (bought p price) n;
    unmetered = bought_unmetered;
    none = left→none (to_buy p price) p w
        (free_fewer (kept p w.few_units (inside p w) (before price) (value n price) (suc top * n) (ordered n price)) (left (to_buy p price)) p.streams
        (λ k l e. ap (λ (b : Bool). not (stream_at p.streams k).metered && not b) (sym (bought_at k l)) ∙ e)
        (kept_free p w.few_units (inside p w) (before price) (value n price) (suc top * n) (ordered n price)));
  }

  -- Another set that serves.
  module _ (other : List Bool) (s : Serves p other) where
    -- From any value up it has no fewer streams.
    from_value_up : (t : ℕ) → count_to n (λ k. chosen (to_buy p price) k && leb t (value n price k)) ≤ count_to n (λ k. chosen other k && leb t (value n price k))
    from_value_up t =
        omega (
          arith,
          buys_few p w.few_units (inside p w) (before price) (value n price) (suc top * n) (ordered n price) (chosen other) s.unmetered (none→left other p w s.none) t,
          count_same n (λ k. chosen (to_buy p price) k && leb t (value n price k)) (λ k. bought p price k && leb t (value n price k))
              (λ k l. ap (λ (b : Bool). b && leb t (value n price k)) (bought_at k l)),
        )

    -- So in each layer.
    abbrev in_layer : List Bool → ℕ → ℕ
    in_layer set t = count_to (length p.streams) (λ k. chosen set k && ltb t (price k))

    layer_value : (set : List Bool) (t : ℕ) → in_layer set t ≡ count_to n (λ k. chosen set k && leb (suc t * n) (value n price k))
    layer_value set t = count_same n _ _ (λ k l. ap (λ (b : Bool). chosen set k && b) (value_layer n price t k l))

    layer_le : (t : ℕ) → in_layer (to_buy p price) t ≤ in_layer other t
    layer_le t = omega (arith, layer_value (to_buy p price) t, layer_value other t, from_value_up (suc t * n))

    in_layers : (set : List Bool) → length set ≡ n → price_of price set ≡ sum_to (suc top) (in_layer set)
    in_layers set e = rw e (layers (suc top) n (chosen set) price (λ k l. omega (arith, most_le n price k l)))

    -- No set that serves costs less.
    pub buying_least : price_of price (to_buy p price) ≤ price_of price other
    buying_least =
        omega (
          arith,
          in_layers (to_buy p price) (values_long (bought p price) n),
          in_layers other s.long,
          sum_le (suc top) (in_layer (to_buy p price)) (in_layer other) (λ t l. layer_le t),
        )

    -- As cheap: as many streams in each layer.
    module _ (priced : Priced p price) (e : price_of price other ≡ price_of price (to_buy p price)) where
      layer_same : (t : ℕ) → t ≤ top → in_layer (to_buy p price) t ≡ in_layer other t
      layer_same t h =
          sum_tight (suc top) (in_layer (to_buy p price)) (in_layer other) (λ t l. layer_le t)
          (sym (in_layers (to_buy p price) (values_long (bought p price) n)) ∙ sym e ∙ in_layers other s.long) t (omega arith)

      -- Each stream of a set costs, so the sets are of one size.
      all_cost : (set : List Bool) → length set ≡ n → ((k : ℕ) → k < n → chosen set k ≡ true → (stream_at p.streams k).metered ≡ false)
          → count_to (length set) (chosen set) ≡ in_layer set 0
      all_cost set long unmetered = rw long (count_same n (chosen set) (λ k. chosen set k && ltb 0 (price k)) each)
        where
          each : (k : ℕ) → k < n → chosen set k ≡ chosen set k && ltb 0 (price k)
          each k l = by_cases (chosen set k) (λ t. rw (t, lt-ltb 0 (price k) (priced k l (unmetered k l t)))) (λ t. rw t)

      size_same : length (numbers_of (to_buy p price)) ≡ length (numbers_of other)
      size_same =
          numbers_long 1 (to_buy p price) ∙ all_cost (to_buy p price) (values_long (bought p price) n) bought_unmetered ∙ layer_same 0 (omega arith)
          ∙ sym (numbers_long 1 other ∙ all_cost other s.long s.unmetered)

      -- Where the sets first differ the other has not the stream: it would have fewer of higher value.
      leads : Leads (to_buy p price) other
      leads m l same lacks takes = omega (arith, gap, layer_same (price m - 1) (omega (arith, most_le n price m b)), from_value_up (suc (value n price m)))
        where
          b : m < n
          b = rw (values_long (bought p price) n) at l

          cost : 1 ≤ price m
          cost = priced m b (s.unmetered m b takes)

          dear : ℕ → Bool
          dear k = ltb (price m - 1) (price k)

          high : ℕ → Bool
          high k = leb (suc (value n price m)) (value n price k)

          -- A later stream as dear or dearer has the higher value.
          later : (k : ℕ) → k < n → m < k → dear k ≡ high k
          later k h g =
              value_layer n price (price m - 1) k h
              ∙ same_test (leb (suc (price m - 1) * n) (value n price k)) (high k)
              (λ q. le-leb (suc (value n price m)) (value n price k)
              (omega (
                arith,
                ltb-true (price m - 1) (price k) (value_layer n price (price m - 1) k h ∙ q),
                over k h g (ltb-true (price m - 1) (price k) (value_layer n price (price m - 1) k h ∙ q)),
              )))
              (λ q. le-leb (suc (price m - 1) * n) (value n price k) (omega (arith, leb-true (suc (value n price m)) (value n price k) q, whole)))
            where
              whole : suc (price m - 1) * n ≡ price m * n
              whole = let z : suc (price m - 1) ≡ price m = omega (arith, cost) in rw z

              over : (k : ℕ) → k < n → m < k → price m - 1 < price k → value n price m < value n price k
              over k h g q = let z : price m ≤ price k = omega arith in omega (arith, mul-le-mul_right n z)

          equal : (x y d : Bool) → one (x && d) + one (y && d) ≤ one (y && d) + one (x && d)
          equal x y d = omega arith

          gap : count_to n (λ k. chosen (to_buy p price) k && dear k) + count_to n (λ k. chosen other k && high k)
              < count_to n (λ k. chosen other k && dear k) + count_to n (λ k. chosen (to_buy p price) k && high k)
          gap =
              count_strict n m (λ k. chosen (to_buy p price) k && dear k) (λ k. chosen other k && high k) (λ k. chosen other k && dear k) (λ k. chosen (to_buy p price) k && high k) b
              (rw (lacks, takes, lt-ltb (price m - 1) (price m) (omega (arith, cost)), lt-leb (suc (value n price m)) (value n price m) (omega arith)) (omega arith))
              (λ k h q. elim (dec_le k m) [
                | yes g ↦ rw (same k (omega arith)) (omega arith)
                | no g ↦ rw (later k h (omega arith)) (omega arith)
              ])

      -- Of those that cost as little none has lower numbers.
      pub buying_first : not_later (numbers_of (to_buy p price)) (numbers_of other) ≡ true
      buying_first = leads_first 1 (to_buy p price) other (values_long (bought p price) n ∙ sym s.long) size_same leads

  -- The streams bought are the set to buy.
  pub best : Priced p price → Best p price (to_buy p price)
  best priced = record {
    serves = buying_serves;
    least = buying_least;
    tie = λ other s e. buying_first other s priced e;
  }
