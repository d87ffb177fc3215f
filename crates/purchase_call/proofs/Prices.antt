-- Prices looked at one after the other, and spread over the streams.
use mathlib.Core.Path.{◌≡◌, refl, sym, ◌∙◌, ap}
use mathlib.Core.Bool.{Bool, true, false, not, ◌||◌, cond}
use mathlib.Core.List.{List, [], ◌∷◌}
use Prim.Native.Nat.{ℕ, zero, suc, ◌+◌, ◌≤◌, ◌<◌}
use native.Mathlib.Numerals.{add-one}
use native.Mathlib.Omega.{arith}
use borrow.Author.Tests.{eq-eqb, ne_eqb, ltb-false}
use lib.Dec.{eqb, ltb}
use lib.ListN.{length, get_or, take}
use Rattle.std.specs.List.{list_any, count_by}
use Rattle.std.proofs.lemmas.List.{take_all}
use Rattle.std.proofs.lemmas.List.Sums.{sum_by_more}
use Rattle.num_bytes.specs.Choice.{pick, refuse_if}
use Rattle.num_bytes.proofs.Tests.{or_none_left, or_none_right, refuse_none}
use Rattle.plant_def.specs.declared.Stream.{Stream}
use Rattle.plant_def.specs.declared.Plant as Arrays
use Rattle.plant_def.specs.Plants.{Plant, no_stream}
use Rattle.plant_def.specs.Within.{Accepted}
use Rattle.plant_def.specs.Says.{plant_of}
use Rattle.plant_def.proofs.Arrayed.{all_listed, listed_at}
use Rattle.purchase_def.specs.Purchases.{max_price, unmetered_to, some_unfair, prices_fault}

-- A price is 0 or over its limit.
abbrev pub off : ℕ → Bool
off c = eqb c 0 || ltb max_price c

-- Some price of a list is unfair.
pub any_unfair : (cs : List ℕ) → list_any off cs ≡ some_unfair cs
any_unfair [] = refl
any_unfair (c ∷ cs) = ap (λ (b : Bool). off c || b) (any_unfair cs)

-- Without fault each price is at most its limit; past the list's end it is 0.
pub low : (cs : List ℕ) (k : ℕ) → some_unfair cs ≡ false → get_or cs k 0 ≤ max_price
low [] k e = omega arith
low (c ∷ cs) zero e = ltb-false max_price c (or_none_right (eqb c 0) (ltb max_price c) (or_none_left (off c) (some_unfair cs) e))
low (c ∷ cs) (suc k) e = low cs k (or_none_right (off c) (some_unfair cs) e)

-- No more streams are unmetered than there are.
pub unmetered_few : (ss : List Stream) (k : ℕ) → unmetered_to ss k ≤ k
unmetered_few ss zero = omega arith
unmetered_few ss (suc k) = omega (arith, one (stream_at k), unmetered_few ss k)
  where
    stream_at : ℕ → Bool
    stream_at k = (get_or ss k no_stream).metered

    one : (b : Bool) → pick {A = ℕ} b 0 1 ≤ 1
    one true = omega arith
    one false = omega arith

-- One stream more.
pub unmetered_next : (p : Arrays.Plant) → Accepted p → (i k m : ℕ) → i < p.count → k ≡ unmetered_to (plant_of p).streams i
    → m ≡ pick (get_or p.streams i no_stream).metered 0 1 + k → m ≡ unmetered_to (plant_of p).streams (i + 1)
unmetered_next p a i k m l e q = rw (add-one i, listed_at p a i l, ← e) q

-- The unmetered ones of the first k streams, counted.
one_counted : (b : Bool) → cond {A = ℕ} (not b) 1 0 ≡ pick b 0 1
one_counted true = refl
one_counted false = refl

counted_to : (ss : List Stream) (k : ℕ) → k ≤ length ss → count_by (λ (s : Stream). not s.metered) (take k ss) ≡ unmetered_to ss k
counted_to ss zero h = refl
counted_to ss (suc k) h =
    rw (← add-one k)
    (omega (arith, sum_by_more (λ (s : Stream). cond {A = ℕ} (not s.metered) 1 0) ss k no_stream (omega arith), counted_to ss k (omega arith), one_counted (get_or ss k no_stream).metered))

-- Those of all streams of a plant in its array.
pub counted : (p : Arrays.Plant) → Accepted p → count_by (λ (s : Stream). not s.metered) (take p.count p.streams) ≡ unmetered_to (plant_of p).streams p.count
counted p a =
    let e : length (plant_of p).streams ≡ p.count = all_listed p a in
    ap (count_by (λ (s : Stream). not s.metered)) (sym (take_all p.count (plant_of p).streams (omega arith)))
    ∙ counted_to (plant_of p).streams p.count (omega arith)

-- The fault, by what was found.
module _ (p : Arrays.Plant) (a : Accepted p) (prices : List ℕ) (n : ℕ) (e : n ≡ unmetered_to (plant_of p).streams p.count) where
  all_unmetered : unmetered_to (plant_of p).streams (length (plant_of p).streams) ≡ n
  all_unmetered = rw (all_listed p a) (sym e)

  -- The prices are not one for each unmetered stream.
  pub not_one_each : (length prices ≡ n → ⊥) → 21 ≡ prices_fault (plant_of p) prices
  not_one_each h = rw (all_unmetered, ne_eqb (length prices) n h) refl

  -- They are: 21 where one is unfair.
  pub one_each : length prices ≡ n → (b : Bool) → b ≡ some_unfair prices → pick b 21 0 ≡ prices_fault (plant_of p) prices
  one_each h b q = rw (all_unmetered, eq-eqb (length prices) n h, ← q) (told b)
    where
      told : (b : Bool) → pick b 21 0 ≡ refuse_if b 21
      told true = refl
      told false = refl

-- Without fault no price is unfair.
pub fair_all : (p : Plant) (prices : List ℕ) → prices_fault p prices ≡ 0 → some_unfair prices ≡ false
fair_all p prices e =
    let short = not (eqb (length prices) (unmetered_to p.streams (length p.streams))) in
    or_none_right short (some_unfair prices) (refuse_none (short || some_unfair prices) 20 e)
