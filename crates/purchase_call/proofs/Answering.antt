-- What the call hands over, by what was found.
use mathlib.Core.Path.{◌≡◌, refl, ◌∙◌, ap}
use mathlib.Core.List.{List}
use Prim.Native.Nat.{ℕ, ◌≤◌, ◌<◌}
use native.Mathlib.Omega.{arith}
use native.Mathlib.Decide.{dec_le}
use lib.ListN.{get_or, replicate}
use Rattle.std.specs.Prelude.{Err}
use Rattle.num_bytes.proofs.Filled.{blank_at}
use Rattle.plant_def.specs.declared.Plant as Arrays
use Rattle.plant_def.specs.Results.{Read}
use Rattle.plant_def.specs.Limits.{max_streams}
use Rattle.plant_def.specs.Plants.{Plant}
use Rattle.plant_def.specs.Files.{read_plant}
use Rattle.plant_def.specs.Within.{Accepted}
use Rattle.plant_def.specs.declared.refusal.Refusal.{Refusal}
use Rattle.plant_def.specs.Refused.{refusal_number}
use Rattle.plant_def.specs.Says.{plant_of, read_of, ReadSays}
use Rattle.plant_def.specs.Views.{read_as}
use Rattle.plant_def.proofs.Arrayed.{all_listed, within_of}
use Rattle.plant_def.proofs.Found.{says_bad, says_got}
use Rattle.plant_def.proofs.Numbers.{some_number}
use Rattle.num_bytes.proofs.Lists.{Written}
use Rattle.purchase_def.specs.Results.{Bought}
use Rattle.purchase_def.specs.Purchases.{max_price, unmetered_to, price_in, prices_fault}
use Rattle.purchase_def.specs.Says.{none_bought, bought_of, BuyOf, BuyWith, BuySays}
use Rattle.purchase_def.specs.Choosing.{to_buy}
use Rattle.purchase_def.proofs.Sets.{same_bought, to_buy_lem}
use Rattle.purchase_call.proofs.Prices.{low, fair_all}

-- The price of each stream of a plant, held in an array.
module _ (p : Arrays.Plant) (a : Accepted p) (prices each : List ℕ) (z : prices_fault (plant_of p) prices ≡ 0)
    (w : Written 0 max_streams (λ k x. price_in (plant_of p).streams prices k) (replicate max_streams 0) each p.count) where
  -- Every price by stream number is low.
  pub held_low : (k : ℕ) → get_or each k 0 ≤ max_price
  held_low k = elim (dec_le p.count k) [
    | yes h ↦ omega (arith, w.rest k h, blank_at {A = ℕ} 0 max_streams k)
    | no h ↦ omega (arith, w.done k (omega arith), low prices (unmetered_to (plant_of p).streams k) (fair_all (plant_of p) prices z))
  ]

  -- So chosen, the set is the best.
  pub best_bought : (r : Bought) → r ≡ bought_of (λ k. get_or each k 0) (to_buy (plant_of p) (λ k. get_or each k 0)) → BuyOf (plant_of p) prices r
  best_bought r q = record {
    unpriced = λ n. absurd (n z);
    bought = λ y. (
      to_buy (plant_of p) (price_in (plant_of p).streams prices),
      to_buy_lem (plant_of p) (within_of p a) prices z,
      q ∙ same_bought (plant_of p) (within_of p a) (λ k. get_or each k 0) (price_in (plant_of p).streams prices)
          (λ k l. let h : k < p.count = rw (all_listed p a) at l in w.done k h),
    );
  }

-- Prices with a fault: the fault is the answer.
pub mispriced : (p : Plant) (prices : List ℕ) (f : ℕ) → f ≡ prices_fault p prices → (f ≡ 0 → ⊥) → (r : Bought) → r ≡ none_bought f → BuyOf p prices r
mispriced p prices f e n r q = record { unpriced = λ m. q ∙ ap none_bought e; bought = λ z. absurd (n (e ∙ z)) }

-- By the reading.
module _ (file prices : List ℕ) (y : Read) (e : y ≡ read_of (read_plant file)) (r : Bought) where
  -- A file that is refused: its number, and nothing to buy.
  pub unread : (y.number ≡ 0 → ⊥) → r ≡ none_bought y.number → BuySays file prices r
  unread = says_bad (λ g. BuyWith g prices r) file y e

  -- A file that is read: the answer of its plant.
  pub answered : y.number ≡ 0 → BuyOf (plant_of y.plant) prices r → BuySays file prices r
  answered = says_got (λ g. BuyWith g prices r) file y e

-- A file that is refused: its refusal, and nothing to buy.
pub file_refused : (file prices : List ℕ) (e : Refusal) → ReadSays file (read_as (Err e)) → BuySays file prices (none_bought (refusal_number e))
file_refused file prices e q = unread file prices (read_as (Err e)) q (none_bought (refusal_number e)) (some_number e) refl
