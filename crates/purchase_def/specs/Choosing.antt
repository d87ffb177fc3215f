-- How the set to buy is chosen, without a search through all sets. For inner promises and proofs: no public promise cites it.
use Rattle.std.specs.Prelude.{Bool, not, ◌&&◌, ◌||◌, List, ℕ, ◌+◌, eqb, ltb, length, set}
use Rattle.num_bytes.specs.Inner.{values}
use Rattle.plant_def.specs.Plants.{Plant}
use Rattle.flow_def.specs.Flows.{stream_at}
use Rattle.flow_def.specs.Chains.{Counting}
use Rattle.flow_def.specs.Classes.{has, joined_to}
use Rattle.purchase_def.specs.Results.{Bought}

-- Stream j goes before stream i where streams are left unmetered: it is dearer, or as dear and of a higher number.
abbrev pub before : (ℕ → ℕ) → ℕ → ℕ → Bool
before price i j = ltb (price i) (price j) || (eqb (price i) (price j) && ltb i j)

-- The unmetered streams that go before stream i.
abbrev pub dearer : (ℕ → ℕ) → ℕ → Counting
dearer price i j s = not s.metered && before price i j

-- An unmetered stream is bought where a chain of those that go before it joins its ends.
abbrev pub bought : Plant → (ℕ → ℕ) → ℕ → Bool
bought p price i =
    let s = stream_at p.streams i in
    not s.metered && has s.to (joined_to (dearer price i) p s.from)

-- The set of all streams that are bought.
abbrev pub to_buy : Plant → (ℕ → ℕ) → List Bool
to_buy p price = values (length p.streams) (bought p price)

-- One stream more on the list, at its price.
abbrev pub with_more : Bought → ℕ → ℕ → Bought
with_more b stream price =
    record { number = b.number; count = b.count + 1; streams = set b.streams b.count stream; price = b.price + price }
