-- What is promised of meters to buy, of every plant that is read.
use mathlib.Core.Path.{◌≡◌, refl, sym, ◌∙◌}
use mathlib.Core.Bool.{Bool, true, false}
use mathlib.Core.List.{List, [], ◌∷◌}
use Prim.Native.Nat.{ℕ, suc, ◌≤◌}
use native.Mathlib.Decide.{ℕ_discrete}
use native.Mathlib.Omega.{arith}
use lib.ListN.{length}
use Rattle.plant_def.specs.Limits.{max_streams}
use Rattle.plant_def.specs.Plants.{Plant}
use Rattle.plant_def.specs.Files.{Got, bad, got, read_plant}
use Rattle.plant_def.specs.Within.{Within}
use Rattle.plant_def.proofs.Accepted.{read_within}
use Rattle.purchase_def.specs.Results.{Bought}
use Rattle.purchase_def.specs.Purchases.{price_in, prices_fault, numbers_from, Best}
use Rattle.purchase_def.specs.Choosing.{to_buy}
use Rattle.purchase_def.specs.Says.{bought_of, BuyOf, BuyWith, BuySays, MetersToBuy}
use Rattle.purchase_def.proofs.Sets.{one_best, same_price, nothing_to_buy, to_buy_lem}

-- The answer is the same whichever best set is taken.
one_answer : (p : Plant) (price : ℕ → ℕ) (a b : List Bool) → Best p price a → Best p price b → bought_of price a ≡ bought_of price b
one_answer p price a b x y = rw (one_best p price a b x y, same_price p price a b x y)

same_of : (p : Plant) (prices : List ℕ) (r r' : Bought) → BuyOf p prices r → BuyOf p prices r' → r ≡ r'
same_of p prices r r' x y = elim (ℕ_discrete (prices_fault p prices) 0) [
  | yes z ↦
      let a = x.bought z in
      let b = y.bought z in
      a.2 ∙ one_answer p (price_in p.streams prices) a.0 b.0 a.1 b.1 ∙ sym b.2
  | no z ↦ x.unpriced z ∙ sym (y.unpriced z)
]

same_with : (g : Got) (prices : List ℕ) (r r' : Bought) → BuyWith g prices r → BuyWith g prices r' → r ≡ r'
same_with (bad f) prices r r' x y = x ∙ sym y
same_with (got p) prices r r' x y = same_of p prices r r' x y

-- No more numbers are handed over than there may be streams.
numbers_most : (i : ℕ) (set : List Bool) → length (numbers_from i set) ≤ length set
numbers_most i [] = omega arith
numbers_most i (true ∷ set) = omega (arith, numbers_most (suc i) set)
numbers_most i (false ∷ set) = omega (arith, numbers_most (suc i) set)

few_of : (p : Plant) → Within p → (prices : List ℕ) (r : Bought) → BuyOf p prices r → r.count ≤ max_streams
few_of p w prices r b = elim (ℕ_discrete (prices_fault p prices) 0) [
  | yes z ↦
      let a = b.bought z in
      rw a.2 (omega (arith, numbers_most 1 a.0, a.1.serves.long, w.few_streams))
  | no z ↦ rw (b.unpriced z) (omega arith)
]

few_with : (file prices : List ℕ) (r : Bought) (g : Got) → read_plant file ≡ g → BuyWith g prices r → r.count ≤ max_streams
few_with file prices r (bad f) e b = rw b (omega arith)
few_with file prices r (got p) e b = few_of p (read_within file p e) prices r b

-- No more numbers than there may be.
pub few_bought : (file prices : List ℕ) (r : Bought) → BuySays file prices r → r.count ≤ max_streams
few_bought file prices r b = few_with file prices r (read_plant file) refl b

-- The record of what is promised of meters to buy.
pub meters_to_buy : MetersToBuy
meters_to_buy = record {
  some = λ file prices p e z. (to_buy p (price_in p.streams prices), to_buy_lem p (read_within file p e) prices z);
  one = one_answer;
  empty = λ file prices p set e z none b.
      one_best p (price_in p.streams prices) set (to_buy p (price_in p.streams prices)) b (to_buy_lem p (read_within file p e) prices z)
      ∙ nothing_to_buy p (read_within file p e) (price_in p.streams prices) none;
  only = λ file. same_with (read_plant file);
}
