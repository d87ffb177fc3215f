-- Of every plant and its prices: the set to buy, computed by labels; it is one; it is empty where nothing is withheld.
use mathlib.Core.Path.{◌≡◌, refl, sym, ◌∙◌, ap}
use mathlib.Core.Bool.{Bool, true, false, not, ◌&&◌, ◌||◌}
use mathlib.Core.List.{List, [], ◌∷◌}
use Prim.Native.Nat.{ℕ, zero, suc, ◌*◌, ◌+◌, ◌-◌, ◌≤◌, ◌<◌}
use native.Mathlib.Nat.{le_antisymm}
use native.Mathlib.Omega.{arith}
use borrow.Author.Tests.{eqb-true, eqb-false, ltb-true, ltb-false, not-true, not-false, ne_eqb}
use lib.Dec.{eqb, ltb}
use lib.ListN.{length, get_or}
use Rattle.num_bytes.specs.Arrays.{filled}
use Rattle.num_bytes.proofs.Tests.{by_cases, clash, and_left, and_right, and_both, or_cases, or_none_left, or_none_right, refuse_none}
use Rattle.plant_def.specs.Limits.{max_units, max_streams}
use Rattle.plant_def.specs.declared.Stream.{Stream}
use Rattle.plant_def.specs.Plants.{Plant}
use Rattle.plant_def.specs.Within.{Within}
use Rattle.flow_def.specs.Flows.{stream_at}
use Rattle.flow_def.specs.Classes.{unmetered_but}
use Rattle.flow_def.specs.Labels.{labels_of, one_label}
use Rattle.num_bytes.proofs.Lists.{values_long, values_at, values_same}
use Rattle.flow_def.proofs.Nets.{inside}
use Rattle.flow_def.proofs.Reach.{Inside, chain_map, joined→chain, chain→joined}
use Rattle.flow_def.proofs.Labels.{label_joined, labels_same}
use Rattle.flow_def.specs.Withheld.{NoneWithheld}
use Rattle.flow_def.specs.Metering.{chosen}
use Rattle.flow_def.proofs.Blanks.{none→classes}
use Rattle.purchase_def.specs.Purchases.{max_price, unmetered_to, price_in, some_unfair, prices_fault, prices_to, price_of, numbers_from, numbers_of, not_later, Best}
use Rattle.purchase_def.specs.Says.{bought_of}
use Rattle.purchase_def.specs.Choosing.{before, dearer, bought, to_buy}
use Rattle.purchase_def.proofs.Buying.{Priced, best}

-- Of prices none of which is unfair each is from 1 to its limit.
pub fair : (cs : List ℕ) (k : ℕ) → some_unfair cs ≡ false → k < length cs → (1 ≤ get_or cs k 0) × (get_or cs k 0 ≤ max_price)
fair [] k e l = absurd (omega arith)
fair (c ∷ cs) zero e l =
    let one = or_none_left (eqb c 0 || ltb max_price c) (some_unfair cs) e in
    let z : c ≡ 0 → ⊥ = eqb-false c 0 (or_none_left (eqb c 0) (ltb max_price c) one) in
    (omega arith, omega (arith, ltb-false max_price c (or_none_right (eqb c 0) (ltb max_price c) one)))
fair (c ∷ cs) (suc k) e l = fair cs k (or_none_right (eqb c 0 || ltb max_price c) (some_unfair cs) e) (omega arith)

unmetered_more : (ss : List Stream) (a d : ℕ) → unmetered_to ss a ≤ unmetered_to ss (a + d)
unmetered_more ss a zero = let e : a + 0 ≡ a = omega arith in rw e (omega arith)
unmetered_more ss a (suc d) = let e : a + suc d ≡ suc (a + d) = omega arith in rw e (omega (arith, unmetered_more ss a d))

-- Prices without fault.
module _ (p : Plant) (prices : List ℕ) (e : prices_fault p prices ≡ 0) where
  abbrev all : ℕ
  all = unmetered_to p.streams (length p.streams)

  tests : not (eqb (length prices) all) || some_unfair prices ≡ false
  tests = refuse_none (not (eqb (length prices) all) || some_unfair prices) 20 e

  -- An unmetered stream has its price in the list.
  listed : (k : ℕ) → k < length p.streams → (stream_at p.streams k).metered ≡ false → unmetered_to p.streams k < length prices
  listed k l m =
      let long = eqb-true (length prices) all (not-false (eqb (length prices) all) (or_none_left (not (eqb (length prices) all)) _ tests)) in
      omega (arith, here, last)
    where
      here : unmetered_to p.streams (suc k) ≡ suc (unmetered_to p.streams k)
      here = rw m (omega arith)

      last : unmetered_to p.streams (suc k) ≤ unmetered_to p.streams (length p.streams)
      last =
          let q : suc k + (length p.streams - suc k) ≡ length p.streams = omega arith in
          rw q at (unmetered_more p.streams (suc k) (length p.streams - suc k))

  -- The price of an unmetered stream is fair.
  pub fair_at : (k : ℕ) → k < length p.streams → (stream_at p.streams k).metered ≡ false
      → (1 ≤ price_in p.streams prices k) × (price_in p.streams prices k ≤ max_price)
  fair_at k l m = fair prices (unmetered_to p.streams k) (or_none_right (not (eqb (length prices) all)) (some_unfair prices) tests) (listed k l m)

  -- Every price by stream number is fair.
  pub fair_prices : Priced p (price_in p.streams prices)
  fair_prices k l m = (fair_at k l m).0

-- What a set of unmetered streams costs at most.
pub sum_most : (n m : ℕ) (test : ℕ → Bool) (price : ℕ → ℕ) → ((k : ℕ) → k < n → test k ≡ true → price k ≤ m) → prices_to n test price ≤ n * m
sum_most zero m test price h = omega arith
sum_most (suc n) m test price h =
    by_cases (test n) (λ t. rw t (omega (arith, h n (omega arith) t, sum_most n m test price (λ k l. h k (omega arith)))))
    (λ t. rw t (omega (arith, sum_most n m test price (λ k l. h k (omega arith)))))

-- A stream is bought where its ends have one label by the streams that go before it.
pub bought_by_labels : (p : Plant) → p.units ≤ max_units → Inside p.units p.streams → (price : ℕ → ℕ) (i : ℕ) → i < length p.streams
    → bought p price i
    ≡ not (stream_at p.streams i).metered && one_label (labels_of (dearer price i) p) (stream_at p.streams i).from (stream_at p.streams i).to
bought_by_labels p small w price i l =
    let s = stream_at p.streams i in
    ap (λ (b : Bool). not s.metered && b) (label_joined (dearer price i) p small w s.from s.to (omega (arith, w i l)) (omega (arith, w i l)))

-- Prices that agree on the streams buy the same, at the same price.
pub prices_same : (n : ℕ) (s t : ℕ → Bool) (f g : ℕ → ℕ) → ((k : ℕ) → k < n → s k ≡ t k) → ((k : ℕ) → k < n → f k ≡ g k)
    → prices_to n s f ≡ prices_to n t g
prices_same zero s t f g h e = refl
prices_same (suc n) s t f g h e =
    rw (h n (omega arith), e n (omega arith), prices_same n s t f g (λ k l. h k (omega arith)) (λ k l. e k (omega arith)))

module _ (p : Plant) (w : Within p) (f g : ℕ → ℕ) (e : (k : ℕ) → k < length p.streams → f k ≡ g k) where
  bought_same : (i : ℕ) → i < length p.streams → bought p f i ≡ bought p g i
  bought_same i l =
      let s = stream_at p.streams i in
      bought_by_labels p w.few_units (inside p w) f i l
      ∙ ap (λ (ls : List ℕ). not s.metered && one_label ls s.from s.to) (labels_same (dearer f i) (dearer g i) p.streams (length p.streams) each)
      ∙ sym (bought_by_labels p w.few_units (inside p w) g i l)
    where
      each : (j : ℕ) → j < length p.streams → dearer f i j (stream_at p.streams j) ≡ dearer g i j (stream_at p.streams j)
      each j b = rw (e i l, e j b)

  -- The answer is the same.
  pub same_bought : bought_of f (to_buy p f) ≡ bought_of g (to_buy p g)
  same_bought =
      let n = length p.streams in
      let sets : to_buy p f ≡ to_buy p g = values_same n (bought p f) (bought p g) bought_same in
      let paid : price_of f (to_buy p g) ≡ price_of g (to_buy p g) =
      prices_same (length (to_buy p g)) (chosen (to_buy p g)) (chosen (to_buy p g)) f g (λ k l. refl) (λ k l. e k (rw (values_long (bought p g) n) at l)) in
      ap (bought_of f) sets ∙ (λ j. record { number = 0; count = length (numbers_of (to_buy p g)); streams = filled 0 max_streams (numbers_of (to_buy p g)); price = paid j })

-- No stream goes before itself.
not_itself : (price : ℕ → ℕ) (i j : ℕ) → before price i j ≡ true → j ≡ i → ⊥
not_itself price i j e q =
    or_cases (ltb (price i) (price j)) _ e (λ t. let z : price i ≡ price j = rw q in omega (arith, ltb-true (price i) (price j) t))
    (λ t. omega (arith, ltb-true i j (and_right (eqb (price i) (price j)) (ltb i j) t)))

-- Where nothing is withheld nothing is bought.
none_bought : (p : Plant) → Within p → (price : ℕ → ℕ) → NoneWithheld p → (i : ℕ) → i < length p.streams → bought p price i ≡ false
none_bought p w price none i l =
    by_cases (bought p price i)
    (λ e.
    let m = and_left (not (stream_at p.streams i).metered) _ e in
    let c = joined→chain (dearer price i) p (stream_at p.streams i).from (stream_at p.streams i).to (and_right (not (stream_at p.streams i).metered) _ e) in
    absurd (none→classes p w none i l (rw (not-true (stream_at p.streams i).metered m, chain→joined (unmetered_but i) p (inside p w) (chain_map others c)))))
    (λ e. e)
  where
    others : (k : ℕ) → k < length p.streams → dearer price i k (stream_at p.streams k) ≡ true → unmetered_but i k (stream_at p.streams k) ≡ true
    others k b e =
        and_both (not (stream_at p.streams k).metered) (not (eqb k i)) (and_left (not (stream_at p.streams k).metered) _ e)
        (rw (ne_eqb k i (not_itself price i k (and_right (not (stream_at p.streams k).metered) _ e))))

none_numbers : (i : ℕ) (set : List Bool) → ((k : ℕ) → k < length set → chosen set k ≡ false) → numbers_from i set ≡ []
none_numbers i [] h = refl
none_numbers i (true ∷ set) h = clash true refl (h 0 (omega arith))
none_numbers i (false ∷ set) h = none_numbers (suc i) set (λ k l. h (suc k) (omega arith))

-- Where nothing is withheld, nothing is bought.
pub nothing_to_buy : (p : Plant) → Within p → (price : ℕ → ℕ) → NoneWithheld p → numbers_of (to_buy p price) ≡ []
nothing_to_buy p w price none = none_numbers 1 (to_buy p price) (λ k l.
    let b : k < length p.streams = rw (values_long (bought p price) (length p.streams)) at l in
    values_at (bought p price) false (length p.streams) k b ∙ none_bought p w price none k b)

-- The set to buy is one.
first_one : (xs ys : List ℕ) → not_later xs ys ≡ true → not_later ys xs ≡ true → xs ≡ ys
first_one [] [] e f = refl
first_one [] (y ∷ ys) e f = clash false f refl
first_one (x ∷ xs) [] e f = clash false e refl
first_one (x ∷ xs) (y ∷ ys) e f =
    or_cases (ltb x y) _ e
    (λ t. absurd (or_cases (ltb y x) _ f (λ u. omega (arith, ltb-true x y t, ltb-true y x u))
    (λ u. omega (arith, ltb-true x y t, eqb-true y x (and_left (eqb y x) _ u)))))
    (λ t. or_cases (ltb y x) _ f
    (λ u. absurd (omega (arith, ltb-true y x u, eqb-true x y (and_left (eqb x y) _ t))))
    (λ u. let q : x ≡ y = eqb-true x y (and_left (eqb x y) _ t) in
    let r = first_one xs ys (and_right (eqb x y) _ t) (and_right (eqb y x) _ u) in rw (q, r)))

-- Two best sets cost the same.
pub same_price : (p : Plant) (price : ℕ → ℕ) (a b : List Bool) → Best p price a → Best p price b → price_of price a ≡ price_of price b
same_price p price a b x y = le_antisymm (x.least b y.serves) (y.least a x.serves)

-- They have the same numbers.
pub one_best : (p : Plant) (price : ℕ → ℕ) (a b : List Bool) → Best p price a → Best p price b → numbers_of a ≡ numbers_of b
one_best p price a b x y =
    let same = same_price p price a b x y in
    first_one (numbers_of a) (numbers_of b) (x.tie b y.serves (sym same)) (y.tie a x.serves same)

-- Of every plant within its limits and prices without fault.
pub to_buy_lem : (p : Plant) → Within p → (prices : List ℕ) → prices_fault p prices ≡ 0
    → Best p (price_in p.streams prices) (to_buy p (price_in p.streams prices))
to_buy_lem p w prices e = best p w (price_in p.streams prices) (fair_prices p prices e)
