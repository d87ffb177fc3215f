-- What the calls give at most: numbers, lengths, prices.
use Rattle.std.specs.Prelude.{◌≡◌, true, List, ℕ, ◌+◌, ◌*◌, ◌-◌, ◌≤◌}
use Rattle.num_bytes.specs.Bytes.{all_bytes}
use Rattle.plant_def.specs.Results.{Done}
use Rattle.plant_def.specs.declared.Stream.{Stream}
use Rattle.plant_def.specs.Limits.{max_streams}
use Rattle.plant_def.specs.Says.{PartsWritten}
use Rattle.ranged_def.specs.Moves.{ToSays, FromSays}
use Rattle.transmitter_def.specs.Says.{TranslateSays}
use Rattle.purchase_def.specs.Results.{Bought}
use Rattle.purchase_def.specs.Purchases.{max_price}
use Rattle.purchase_def.specs.Says.{BuySays}
use Rattle.survey_def.specs.Results.{Layouts}
use Rattle.survey_def.specs.Says.{SurveySays}

-- No writer, translator, move, purchase or survey gives 19: that number is of a plant that has no flow in range, and these look for none. (Nor does
-- a reader: `File-refusals` and `Reopening.refused` have the numbers that readers give.)
pub record Without19 : Type 0 where
  pub writer : (n c : ℕ) (ss : List Stream) (o o' : List ℕ) (r : Done) → PartsWritten n c ss o o' r → r.number ≡ 19 → ⊥
  pub translator : (file o o' : List ℕ) (r : Done) → all_bytes file ≡ true → TranslateSays file o o' r → r.number ≡ 19 → ⊥
  pub forth : (file o o' : List ℕ) (r : Done) → ToSays file o o' r → r.number ≡ 19 → ⊥
  pub home : (file o o' : List ℕ) (r : Done) → FromSays file o o' r → r.number ≡ 19 → ⊥
  pub purchase : (file prices : List ℕ) (r : Bought) → BuySays file prices r → r.number ≡ 19 → ⊥
  pub survey : (file : List ℕ) (r : Layouts) → SurveySays file r → r.number ≡ 19 → ⊥

-- The longest file without ranges: a metered stream's record is 9 bytes long. 868 bytes.
abbrev pub longest_plain : ℕ
longest_plain = 2 + max_streams * 9 + 2

-- The bounds of lengths and prices.
pub record Bounds : Type 0 where
  -- The translator writes no ranges: 868 bytes at most.
  pub translated : (file o o' : List ℕ) (r : Done) → TranslateSays file o o' r → r.written ≤ longest_plain
  -- A purchase leaves a stream unmetered: 95,000,000 at most.
  pub price : (file prices : List ℕ) (r : Bought) → BuySays file prices r → r.price ≤ (max_streams - 1) * max_price
