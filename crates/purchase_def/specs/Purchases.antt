-- Meters to buy: the cheapest set of unmetered streams to meter so that nothing is withheld.
use Rattle.std.specs.Prelude.{◌≡◌, Bool, true, false, not, ◌&&◌, ◌||◌, List, [], ◌∷◌, ℕ, zero, suc, ◌+◌, ◌≤◌, ◌<◌, eqb, ltb, length, get_or}
use Rattle.num_bytes.specs.Choice.{pick, refuse_if}
use Rattle.plant_def.specs.declared.Stream.{Stream}
use Rattle.plant_def.specs.Plants.{Plant}
use Rattle.flow_def.specs.Flows.{stream_at}
use Rattle.flow_def.specs.Withheld.{NoneWithheld}
use Rattle.flow_def.specs.Metering.{chosen, metering}

-- Prices are from 1 to this.
abbrev pub max_price : ℕ
max_price = 1000000

-- How many of the first k streams are unmetered.
abbrev pub unmetered_to : List Stream → ℕ → ℕ
unmetered_to ss zero = 0
unmetered_to ss (suc k) = pick (stream_at ss k).metered 0 1 + unmetered_to ss k

-- The price of an unmetered stream k, from 0: the prices of all unmetered streams are listed in stream order.
abbrev pub price_in : List Stream → List ℕ → ℕ → ℕ
price_in ss prices k = get_or prices (unmetered_to ss k) 0

-- Some price is 0 or over its limit.
abbrev pub some_unfair : List ℕ → Bool
some_unfair [] = false
some_unfair (c ∷ cs) = (eqb c 0 || ltb max_price c) || some_unfair cs

-- The prices are not one for each unmetered stream, or one is 0 or over its limit: 21.
abbrev pub prices_fault : Plant → List ℕ → ℕ
prices_fault p prices = refuse_if (not (eqb (length prices) (unmetered_to p.streams (length p.streams))) || some_unfair prices) 21

-- A set of streams is yes or no for each, in stream order. The prices of those of the first n that are in it, summed.
abbrev pub prices_to : ℕ → (ℕ → Bool) → (ℕ → ℕ) → ℕ
prices_to zero in-it price = 0
prices_to (suc n) in-it price = pick (in-it n) (price n) 0 + prices_to n in-it price

-- The price of a set.
abbrev pub price_of : (ℕ → ℕ) → List Bool → ℕ
price_of price set = prices_to (length set) (chosen set) price

-- The numbers of its streams in rising order; i is the first stream's.
abbrev pub numbers_from : ℕ → List Bool → List ℕ
numbers_from i [] = []
numbers_from i (b ∷ set) = pick b (i ∷ numbers_from (suc i) set) (numbers_from (suc i) set)

-- The numbers of its streams, from 1.
abbrev pub numbers_of : List Bool → List ℕ
numbers_of set = numbers_from 1 set

-- Of two lists of numbers the first is the same, or it comes first at the first difference.
abbrev pub not_later : List ℕ → List ℕ → Bool
not_later [] ys = true
not_later (x ∷ xs) [] = false
not_later (x ∷ xs) (y ∷ ys) = ltb x y || (eqb x y && not_later xs ys)

-- A set serves: it is of unmetered streams, and with these metered too nothing is withheld.
pub record Serves (p : Plant) (set : List Bool) : Type 0 where
  pub long : length set ≡ length p.streams
  pub unmetered : (k : ℕ) → k < length p.streams → chosen set k ≡ true → (stream_at p.streams k).metered ≡ false
  pub none : NoneWithheld (metering set p)

-- The set to buy: of all sets that serve none is cheaper, and of the equally cheap ones none comes before it.
pub record Best (p : Plant) (price : ℕ → ℕ) (set : List Bool) : Type 0 where
  pub serves : Serves p set
  pub least : (other : List Bool) → Serves p other → price_of price set ≤ price_of price other
  pub tie : (other : List Bool) → Serves p other → price_of price other ≡ price_of price set
      → not_later (numbers_of set) (numbers_of other) ≡ true
