-- Whether a stream of the array is bought; and the streams bought so far.
use mathlib.Core.Path.{◌≡◌, refl, sym, ◌∙◌, ap}
use mathlib.Core.Bool.{Bool, true, false}
use mathlib.Core.List.{List, [], ◌∷◌, ◌++◌, append-nil}
use Prim.Native.Nat.{ℕ, zero, suc, ◌+◌, ◌≤◌, ◌<◌, ◌^◌}
use native.Mathlib.Numerals.{add-one}
use native.Mathlib.Omega.{arith}
use lib.ListN.{length, get_or, length-append}
use Rattle.num_bytes.specs.Arrays.{filled}
use Rattle.num_bytes.specs.Choice.{pick}
use Rattle.num_bytes.specs.Inner.{values}
use Rattle.num_bytes.proofs.Filled.{length_filled, filled_none, filled_more}
use Rattle.plant_def.specs.declared.Plant as Arrays
use Rattle.plant_def.specs.Limits.{max_streams}
use Rattle.plant_def.specs.Plants.{no_stream}
use Rattle.plant_def.specs.Within.{Accepted}
use Rattle.plant_def.specs.Says.{plant_of}
use Rattle.plant_def.proofs.Arrayed.{all_listed, listed_at, within_of}
use Rattle.flow_def.specs.Labels.{labels_of, one_label}
use Rattle.num_bytes.proofs.Lists.{values_long, values_at}
use Rattle.flow_def.proofs.Nets.{inside}
use Rattle.flow_def.specs.Metering.{chosen}
use Rattle.purchase_def.specs.Results.{Bought}
use Rattle.purchase_def.specs.Purchases.{max_price, prices_to, price_of, numbers_from}
use Rattle.purchase_def.specs.Says.{none_bought, bought_of}
use Rattle.purchase_def.specs.Choosing.{dearer, bought, to_buy, with_more}
use Rattle.purchase_def.proofs.Sets.{bought_by_labels, sum_most, prices_same}

-- An unmetered stream is bought by the labels of those that go before it.
module _ (p : Arrays.Plant) (a : Accepted p) (price : ℕ → ℕ) (i : ℕ) (l : i < p.count) where
  -- It is bought if the labels join its ends.
  pub by_label : (get_or p.streams i no_stream).metered ≡ false → (labels : List ℕ) → labels ≡ labels_of (dearer price i) (plant_of p) → (r : Bool)
      → r ≡ one_label labels (get_or p.streams i no_stream).from (get_or p.streams i no_stream).to → r ≡ bought (plant_of p) price i
  by_label t labels e r q =
      let listed : i < length (plant_of p).streams = rw (all_listed p a) l in
      let w = within_of p a in
      q ∙ rw e (sym (bought_by_labels (plant_of p) w.few_units (inside (plant_of p) w) price i listed ∙ rw (listed_at p a i l, t)))

-- The first n streams: yes or no by a test.
module _ (price : ℕ → ℕ) where
  -- What is bought of the first n.
  abbrev pub so_far : (ℕ → Bool) → ℕ → Bought
  so_far f n = record { number = 0; count = length (numbers_from 1 (values n f)); streams = filled 0 max_streams (numbers_from 1 (values n f)); price = prices_to n f price }

  -- None are bought yet.
  pub none_yet : (f : ℕ → Bool) (b : Bought) → b ≡ none_bought 0 → b ≡ so_far f 0
  none_yet f b e = e ∙ (λ j. record { number = 0; count = 0; streams = filled_none 0 max_streams j; price = 0 })

  numbers_next : (k n : ℕ) (f : ℕ → Bool) → numbers_from k (values (suc n) f) ≡ numbers_from k (values n f) ++ pick (f n) ((k + n) ∷ []) []
  numbers_next k zero f = let e : k + 0 ≡ k = omega arith in rw e
  numbers_next k (suc n) f = go (f 0) (numbers_next (suc k) n (λ j. f (suc j)))
    where
      go : (b : Bool) → numbers_from (suc k) (values (suc n) (λ j. f (suc j))) ≡ numbers_from (suc k) (values n (λ j. f (suc j))) ++ pick (f (suc n)) ((suc k + n) ∷ []) []
          → pick b (k ∷ numbers_from (suc k) (values (suc n) (λ j. f (suc j)))) (numbers_from (suc k) (values (suc n) (λ j. f (suc j))))
          ≡ pick b (k ∷ numbers_from (suc k) (values n (λ j. f (suc j)))) (numbers_from (suc k) (values n (λ j. f (suc j)))) ++ pick (f (suc n)) ((k + suc n) ∷ []) []
      go true r = let e : k + suc n ≡ suc k + n = omega arith in rw e (ap (λ (l : List ℕ). k ∷ l) r)
      go false r = let e : k + suc n ≡ suc k + n = omega arith in rw e r

  -- No more numbers than streams.
  pub numbers_few : (k n : ℕ) (f : ℕ → Bool) → length (numbers_from k (values n f)) ≤ n
  numbers_few k zero f = omega arith
  numbers_few k (suc n) f = go (f 0) (numbers_few (suc k) n (λ j. f (suc j)))
    where
      go : (b : Bool) → length (numbers_from (suc k) (values n (λ j. f (suc j)))) ≤ n
          → length (pick b (k ∷ numbers_from (suc k) (values n (λ j. f (suc j)))) (numbers_from (suc k) (values n (λ j. f (suc j))))) ≤ suc n
      go true r = omega arith
      go false r = omega arith

  -- There is room for one stream more.
  pub with_room : ((k : ℕ) → price k ≤ max_price) → (f : ℕ → Bool) (n : ℕ) (b : Bought) → n < max_streams → b ≡ so_far f n
      → (b.count < max_streams) × (length b.streams ≡ max_streams) × (b.price + price n < 2 ^ 32)
  with_room h f n b small e =
      rw e (
        omega (arith, numbers_few 1 n f),
        length_filled 0 max_streams (numbers_from 1 (values n f)),
        omega (arith, sum_most n max_price f price (λ k l t. h k), h n),
      )

  -- One stream more.
  pub next : (f : ℕ → Bool) (n : ℕ) (b : Bought) (taken : Bool) (stream cost : ℕ) (r : Bought) → n < max_streams → b ≡ so_far f n → taken ≡ f n
      → stream ≡ n + 1 → cost ≡ price n
      → r ≡ pick taken (with_more b stream cost) b
      → r ≡ so_far f (n + 1)
  next f n b taken stream cost r small e t s c q = q ∙ rw (e, s, c, t, add-one n) (go (f n) refl)
    where
      go : (d : Bool) → f n ≡ d
          → pick d (with_more (so_far f n) (suc n) (price n)) (so_far f n) ≡ so_far f (suc n)
      go true y =
          let here : 1 + n ≡ suc n = omega arith in
          let more : numbers_from 1 (values (suc n) f) ≡ numbers_from 1 (values n f) ++ (suc n ∷ []) = numbers_next 1 n f ∙ rw (y, here) refl in
          let long : length (numbers_from 1 (values n f)) + 1 ≡ length (numbers_from 1 (values (suc n) f)) = sym (ap length more ∙ length-append (numbers_from 1 (values n f)) (suc n ∷ [])) in
          let put = filled_more 0 max_streams (numbers_from 1 (values n f)) (suc n) (omega (arith, numbers_few 1 n f)) ∙ ap (filled 0 max_streams) (sym more) in
          let paid : prices_to n f price + price n ≡ prices_to (suc n) f price = rw y (omega arith) in
          λ j. record { number = 0; count = long j; streams = put j; price = paid j }
      go false y =
          let same : numbers_from 1 (values n f) ≡ numbers_from 1 (values (suc n) f) = sym (numbers_next 1 n f ∙ rw y (append-nil (numbers_from 1 (values n f)))) in
          let paid : prices_to n f price ≡ prices_to (suc n) f price = rw y (omega arith) in
          λ j. record { number = 0; count = length (same j); streams = filled 0 max_streams (same j); price = paid j }

  -- All streams.
  all_told : (p : Arrays.Plant) → Accepted p → so_far (bought (plant_of p) price) p.count ≡ bought_of price (to_buy (plant_of p) price)
  all_told p a =
      ap (λ (m : ℕ). so_far (bought (plant_of p) price) m) (sym (all_listed p a))
      ∙ (λ j. record {
        number = 0;
        count = length (numbers_from 1 (to_buy (plant_of p) price));
        streams = filled 0 max_streams (numbers_from 1 (to_buy (plant_of p) price));
        price = paid j;
      })
    where
      paid : prices_to (length (plant_of p).streams) (bought (plant_of p) price) price ≡ price_of price (to_buy (plant_of p) price)
      paid =
          let f = bought (plant_of p) price in
          rw (values_long f (length (plant_of p).streams))
          (prices_same (length (plant_of p).streams) f (chosen (to_buy (plant_of p) price)) price price
          (λ k l. sym (values_at f false (length (plant_of p).streams) k l)) (λ k l. refl))

  -- All streams: the answer of the plant.
  pub told : (p : Arrays.Plant) → Accepted p → (i : ℕ) (b : Bought) → i ≡ p.count → b ≡ so_far (bought (plant_of p) price) i
      → b ≡ bought_of price (to_buy (plant_of p) price)
  told p a i b e q = q ∙ ap (λ (m : ℕ). so_far (bought (plant_of p) price) m) e ∙ all_told p a
