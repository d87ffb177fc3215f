-- Meters to buy, their numbers handed over in a lent slice.
use Rattle.std.specs.Prelude.{List, ℕ, ◌≤◌, length, take}
use Rattle.num_bytes.specs.Bytes.{over}
use Rattle.plant_def.specs.Limits.{max_streams}
use Rattle.num_lent.specs.Lending.{Lending}
use Rattle.purchase_def.specs.Results.{Bought}
use Rattle.purchase_def.specs.Says.{none_bought, BuySays}

-- What an answer shows: number, count and price; the streams' numbers at the front of the slice, the rest of it as it was. (A refusal
-- has no numbers: the slice is as it was.)
abbrev pub bought_shown : List ℕ → Bought → ℕ × ℕ × ℕ × List ℕ
bought_shown o b = (b.number, b.count, b.price, over (take b.count b.streams) o)

-- The call over a slice, to hold as many as there may be streams: what is found after it.
abbrev pub BuyFound : (file prices o : List ℕ) → ℕ × ℕ × ℕ × List ℕ → Type 0
BuyFound file prices o = Lending (max_streams ≤ length o) none_bought (BuySays file prices) (bought_shown o)
