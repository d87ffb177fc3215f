-- What the exported calls of many slices and numbers promise, by what is lent to them: each at the call's entry and at its exit.
use Rattle.std.specs.Prelude.{List, ℤ, ℕ, ◌<◌, ◌^◌}
use Rattle.num_bytes.specs.Lent.{Lent, LentMut}
use Rattle.num_lent.specs.Marks.{marks_in}
use Rattle.plant_def.specs.Limits.{places}
use Rattle.plant_parts.specs.Parts.{Slices, HandedWritten}
use Rattle.plant_lent.specs.Lent.{PlantFound}
use Rattle.sheet_lent.specs.Lent.{LentSays}
use Rattle.sheet_parts.specs.Kept.{HandsOver}

-- The sheet call, the last numbers ls and the slice o being ls' and o' after it; no bit past the places is set.
abbrev pub SheetLent : (file : List ℕ) (office : ℕ) (ls o ls' o' : List ℕ) (written bits number : ℕ) → Type 0
SheetLent file office ls o ls' o' written bits number =
    LentSays file office ls o o' (record { number = number; written = written; lasts = ls'; marked = marks_in bits }) × (bits < 2 ^ places)

-- The same of what is lent.
abbrev pub SheetCall : Lent (List ℕ) → ℕ → LentMut (List ℕ) → LentMut (List ℕ) → LentMut ℕ → LentMut ℕ → ℕ → Type 0
SheetCall file office lasts sheet written marked number =
    SheetLent file.entry.now office lasts.entry.now sheet.entry.now lasts.exit.now sheet.exit.now written.exit.now
    marked.exit.now number

-- Eight slices, as they are at the call's entry,
abbrev pub slices_in : (from to metered weight : Lent (List ℕ)) (reading : Lent (List ℤ)) (ranged : Lent (List ℕ)) (low high : Lent (List ℤ)) → Slices
slices_in from to metered weight reading ranged low high = record {
  from = from.entry.now;
  to = to.entry.now;
  metered = metered.entry.now;
  weight = weight.entry.now;
  reading = reading.entry.now;
  ranged = ranged.entry.now;
  low = low.entry.now;
  high = high.entry.now;
}

-- eight that are lent to be written, as they are at the call's entry,
abbrev pub slices_before : (from to metered weight : LentMut (List ℕ)) (reading : LentMut (List ℤ)) (ranged : LentMut (List ℕ)) (low high : LentMut (List ℤ)) → Slices
slices_before from to metered weight reading ranged low high = record {
  from = from.entry.now;
  to = to.entry.now;
  metered = metered.entry.now;
  weight = weight.entry.now;
  reading = reading.entry.now;
  ranged = ranged.entry.now;
  low = low.entry.now;
  high = high.entry.now;
}

-- and at its exit.
abbrev pub slices_out : (from to metered weight : LentMut (List ℕ)) (reading : LentMut (List ℤ)) (ranged : LentMut (List ℕ)) (low high : LentMut (List ℤ)) → Slices
slices_out from to metered weight reading ranged low high = record {
  from = from.exit.now;
  to = to.exit.now;
  metered = metered.exit.now;
  weight = weight.exit.now;
  reading = reading.exit.now;
  ranged = ranged.exit.now;
  low = low.exit.now;
  high = high.exit.now;
}

-- The plant writer, of the plant whose streams' parts are handed over in eight slices.
abbrev pub WriteCall : (units count : ℕ) (from to metered weight : Lent (List ℕ)) (reading : Lent (List ℤ)) (ranged : Lent (List ℕ))
    (low high : Lent (List ℤ)) (file : LentMut (List ℕ)) (written : LentMut ℕ) (number : ℕ) → Type 0
WriteCall units count from to metered weight reading ranged low high file written number =
    HandedWritten units count (slices_in from to metered weight reading ranged low high) file.entry.now file.exit.now
    (record { number = number; written = written.exit.now })

-- The plant reader, into eight slices.
abbrev pub ReadPlantCall : (file : Lent (List ℕ)) (units count : LentMut ℕ) (from to metered weight : LentMut (List ℕ)) (reading : LentMut (List ℤ))
    (ranged : LentMut (List ℕ)) (low high : LentMut (List ℤ)) (number : ℕ) → Type 0
ReadPlantCall file units count from to metered weight reading ranged low high number =
    PlantFound file.entry.now (slices_before from to metered weight reading ranged low high)
    (number, units.exit.now, count.exit.now, slices_out from to metered weight reading ranged low high)

-- The sheet reader.
abbrev pub ReadCall : (bytes : Lent (List ℕ)) (kinds : LentMut (List ℕ)) (flows : LentMut (List ℤ)) (count kind office sheet cost degrees verdict : LentMut ℕ)
    (number : ℕ) → Type 0
ReadCall bytes kinds flows count kind office sheet cost degrees verdict number =
    HandsOver bytes.entry.now kinds.entry.now kinds.exit.now flows.entry.now flows.exit.now number count.exit.now
    kind.exit.now office.exit.now sheet.exit.now cost.exit.now degrees.exit.now verdict.exit.now
