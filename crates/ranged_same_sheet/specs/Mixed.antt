-- A mixed plant, with and without 0x06, may come to another sheet in the ranged form, or to 19: one example of each, proved.
use Rattle.std.specs.Prelude.{◌≡◌, List, [], ◌∷◌, ◌++◌, ℤ, pos, ℕ}
use Rattle.num_bytes.specs.Bytes.{put_be, raw}
use Rattle.plant_def.specs.Files.{read_plant}
use Rattle.sheet_def.specs.Table.{Example, Shows, Refuses, site, end, full_unit}
use Rattle.plant_def.specs.Converts.{bytes_of}
use Rattle.ranged_def.specs.Moves.{widest_low, widest_high, to_ranged}

-- The record of a metered stream,
abbrev pub metered : ℕ → ℕ → ℕ → ℤ → List ℕ
metered u v w r = 2 ∷ u ∷ v ∷ put_be 2 w ++ put_be 4 (raw 4 r)

-- of a stream with a range,
abbrev pub ranged : ℕ → ℕ → ℕ → ℤ → ℤ → ℤ → List ℕ
ranged u v w r low high = 6 ∷ u ∷ v ∷ put_be 2 w ++ put_be 4 (raw 4 r) ++ put_be 4 (raw 4 low) ++ put_be 4 (raw 4 high)

-- of an A stream of a sheet,
abbrev pub adjusted : ℤ → List ℕ
adjusted x = 17 ∷ put_be 8 (raw 8 x)

-- and of the total of a sheet whose degrees are 1 and whose verdict is 1, fail.
abbrev pub failing : ℕ → List ℕ
failing cost = 30 ∷ 0 ∷ put_be 4 1 ++ put_be 8 cost ++ (1 ∷ 1 ∷ [])

-- In 2,000,000,000 (its range has no other value) and 3,001,000 with weight 1,000, out 0: the second takes 1,000,000 in, and
-- 2,001,000,000 goes out.
abbrev pub mixed : Example
mixed =
    record {
      file = site 1 ++ ranged 0 1 1 (pos 0) (pos 2000000000) (pos 2000000000) ++ metered 0 1 1000 (pos 3001000) ++ metered 1 0 1 (pos 0) ++ end 3;
      flow = pos 2000000000 ∷ pos 1000000 ∷ pos 2001000000 ∷ [];
      sheet = adjusted (pos 2000000000) ++ adjusted (pos 1000000) ++ adjusted (pos 2001000000) ++ failing 8008005001000000000;
    }

-- In the ranged form no more than 2,000,000,000 goes out.
abbrev pub mixed_moved : Example
mixed_moved =
    record {
      file = site 1 ++ ranged 0 1 1 (pos 0) (pos 2000000000) (pos 2000000000) ++ ranged 0 1 1000 (pos 3001000) widest_low widest_high
          ++ ranged 1 0 1 (pos 0) widest_low widest_high ++ end 3;
      flow = pos 2000000000 ∷ pos 0 ∷ pos 2000000000 ∷ [];
      sheet = adjusted (pos 2000000000) ++ adjusted (pos 0) ++ adjusted (pos 2000000000) ++ failing 8009006001000000000;
    }

-- Twice in, from 1,200,000,000 on: 2,400,000,000 goes out, or in the ranged form more comes in than can go out.
abbrev pub filling : Example
filling =
    record {
      file = site 1 ++ ranged 0 1 1 (pos 0) (pos 1200000000) (pos 2000000000) ++ ranged 0 1 1 (pos 0) (pos 1200000000) (pos 2000000000)
          ++ metered 1 0 1 (pos 0) ++ end 3;
      flow = pos 1200000000 ∷ pos 1200000000 ∷ pos 2400000000 ∷ [];
      sheet = adjusted (pos 1200000000) ++ adjusted (pos 1200000000) ++ adjusted (pos 2400000000) ++ failing 8640000000000000000;
    }

-- The same in the ranged form.
abbrev pub filling_moved : List ℕ
filling_moved =
    site 1 ++ ranged 0 1 1 (pos 0) (pos 1200000000) (pos 2000000000) ++ ranged 0 1 1 (pos 0) (pos 1200000000) (pos 2000000000)
    ++ ranged 1 0 1 (pos 0) widest_low widest_high ++ end 3

-- What the one file becomes is the other.
abbrev pub Becomes : List ℕ → List ℕ → Type 0
Becomes file moved = bytes_of (to_ranged (read_plant file)) ≡ moved

-- Both examples: in the ranged form the one plant comes to another sheet, the other to refusal 19.
pub record Mixed : Type 0 where
  -- Another sheet.
  pub another : Becomes mixed.file mixed_moved.file
  pub before : Shows mixed
  pub after : Shows mixed_moved
  pub differ : mixed.sheet ≡ mixed_moved.sheet → ⊥
  -- No sheet any more: 19.
  pub full : Becomes filling.file filling_moved
  pub shown : Shows filling
  pub refused : Refuses filling_moved full_unit
