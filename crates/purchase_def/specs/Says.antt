-- What the call over meters to buy promises.
use Rattle.std.specs.Prelude.{◌≡◌, Bool, List, [], ℕ, length, replicate}
use Rattle.plant_def.specs.Converts.{ReadAs}
use Rattle.num_bytes.specs.Arrays.{filled}
use Rattle.plant_def.specs.Limits.{max_streams}
use Rattle.plant_def.specs.Plants.{Plant}
use Rattle.plant_def.specs.Files.{Got, got, read_plant}
use Rattle.flow_def.specs.Withheld.{NoneWithheld}
use Rattle.purchase_def.specs.Results.{Bought}
use Rattle.purchase_def.specs.Purchases.{price_in, prices_fault, price_of, numbers_of, Best}

-- A refusal hands over its number and zeros.
abbrev pub none_bought : ℕ → Bought
none_bought f = record { number = f; count = 0; streams = replicate max_streams 0; price = 0 }

-- A set that is bought: how many streams, their numbers, zeros after them, and what they cost.
abbrev pub bought_of : (ℕ → ℕ) → List Bool → Bought
bought_of price set =
    record { number = 0; count = length (numbers_of set); streams = filled 0 max_streams (numbers_of set); price = price_of price set }

-- A plant that is read: 21 where the prices are at fault; else the best set.
pub record BuyOf (p : Plant) (prices : List ℕ) (r : Bought) : Type 0 where
  pub unpriced : (prices_fault p prices ≡ 0 → ⊥) → r ≡ none_bought (prices_fault p prices)
  pub bought : prices_fault p prices ≡ 0
      → let price = price_in p.streams prices in (set : List Bool) × Best p price set × (r ≡ bought_of price set)

-- The call: the file's refusals, 3 to 12 and 18, come first.
abbrev pub BuySays : List ℕ → List ℕ → Bought → Type 0
BuySays file prices = ReadAs none_bought (λ p. BuyOf p prices) (read_plant file)

-- The same of what was read.
abbrev pub BuyWith : Got → List ℕ → Bought → Type 0
BuyWith g prices = ReadAs none_bought (λ p. BuyOf p prices) g

-- Of all plants that are read and prices without fault: some set is best, the answer is the same whichever is taken, and it is
-- empty where nothing is withheld.
pub record MetersToBuy : Type 0 where
  pub some : (file prices : List ℕ) (p : Plant) → read_plant file ≡ got p → prices_fault p prices ≡ 0
      → (set : List Bool) × Best p (price_in p.streams prices) set
  pub one : (p : Plant) (price : ℕ → ℕ) (a b : List Bool) → Best p price a → Best p price b → bought_of price a ≡ bought_of price b
  pub empty : (file prices : List ℕ) (p : Plant) (set : List Bool) → read_plant file ≡ got p → prices_fault p prices ≡ 0
      → NoneWithheld p → Best p (price_in p.streams prices) set → numbers_of set ≡ []
  pub only : (file prices : List ℕ) (r r' : Bought) → BuySays file prices r → BuySays file prices r' → r ≡ r'
