-- What the sheet call over lent last numbers ensures.
use Rattle.std.specs.Prelude.{◌≡◌, List, ℕ, ltb, length, take, drop}
use Rattle.num_bytes.specs.Inner.{PickT}
use Rattle.sheet_def.specs.declared.Sheet.{Sheet}
use Rattle.sheet_def.specs.Counters.{offices}
use Rattle.sheet_def.specs.Sentences.{Refused}
use Rattle.sheet_def.specs.Says.{SheetSays}

-- The answer with the offices' last numbers alone.
abbrev pub fronted : Sheet → Sheet
fronted r = record { number = r.number; written = r.written; lasts = take offices r.lasts; marked = r.marked }

-- Of all the numbers ls in the slice, and those that the caller finds there after the call: fewer than eight are refused as 1; else
-- the first eight are the offices', as the sheet call has it, and the others are as they were.
abbrev pub LentSays : List ℕ → ℕ → List ℕ → List ℕ → List ℕ → Sheet → Type 0
LentSays file office ls o o' r =
    PickT (ltb (length ls) offices) (Refused 1 ls o o' r)
    (SheetSays file office (take offices ls) o o' (fronted r) × (drop offices r.lasts ≡ drop offices ls))
