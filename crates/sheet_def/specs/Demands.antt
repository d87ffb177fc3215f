-- The demands, all in one record. `SheetSays file office lasts o o' r` is what the sheet call ensures.
use Rattle.std.specs.Prelude.{◌≡◌, true, List, ℤ, ℕ, ◌≤◌}
use Rattle.plant_def.specs.Plants.{Plant}
use Rattle.plant_def.specs.Files.{RoundTrip, got, read_plant}
use Rattle.flow_def.specs.Flows.{allowed}
use Rattle.flow_def.specs.Chains.{every_stream, unmetered_only}
use Rattle.flow_def.specs.Groups.{OnePass}
use Rattle.flow_def.specs.Overfull.{unmarked, Refusal19}
use Rattle.sheet_def.specs.declared.Sheet.{Sheet}
use Rattle.sheet_def.specs.Sheets.{SheetParts}
use Rattle.sheet_def.specs.Sentences.{Tells, Answers}
use Rattle.sheet_def.specs.Counters.{top_sheet, counter_of}
use Rattle.sheet_def.specs.Says.{SheetSays}
use Rattle.sheet_def.specs.DeskTool.{DeskTool}
use Rattle.sheet_def.specs.Kept.{Reopening}

-- An answer without the places that it marks.
abbrev pub bare : Sheet → Sheet
bare r = record { number = r.number; written = r.written; lasts = r.lasts; marked = unmarked }

-- Two answers that a caller cannot tell apart but by the set that a 19 marks.
abbrev pub Alike : Sheet → Sheet → Type 0
Alike r₁ r₂ = (bare r₁ ≡ bare r₂) × ((r₁.number ≡ 19 → ⊥) → r₁ ≡ r₂)

-- No choice is left but that of the set: what a call returns and leaves behind follows from what it was handed.
abbrev pub NoChoice : Type 0
NoChoice =
    (file : List ℕ) (office : ℕ) (lasts : List ℕ) (o o₁ o₂ : List ℕ) (r₁ r₂ : Sheet)
    → SheetSays file office lasts o o₁ r₁ → SheetSays file office lasts o o₂ r₂ → Alike r₁ r₂ × (o₁ ≡ o₂)

-- The customer's demands, one by one.
pub record Demands : Type 0 where
  -- Every call has an answer, and every plant that is read and has a flow in range a sheet that tells what it has to: the sentences below
  -- are about something, with a call and without one.
  pub some : (file : List ℕ) (office : ℕ) (lasts o : List ℕ) → (o' : List ℕ) × (r : Sheet) × SheetSays file office lasts o o' r
  pub third : (file : List ℕ) (p : Plant) (ys : List ℤ) → read_plant file ≡ got p → allowed p ys ≡ true → (s : SheetParts) × Tells p s
  -- Of every call, the office's counter being of 32 bits: the refusal, or a sheet that tells what it has to.
  pub sentences : (file : List ℕ) (office : ℕ) (lasts o o' : List ℕ) (r : Sheet) → counter_of office lasts ≤ top_sheet → SheetSays file office lasts o o' r
      → Answers file office lasts o o' r
  -- What a call returns and leaves behind follows from what it was handed, but for the set that a 19 marks.
  pub no_choice : NoChoice
  -- A plant file written from its parts and read again comes back the same, both ways.
  pub round : RoundTrip
  -- Groups, by the unmetered streams, and connected pieces, by all, are formed in one pass over the streams.
  pub groups : OnePass unmetered_only
  pub pieces : OnePass every_stream
  -- Sheets read back in: writing and reading undo each other. (What a sheet that a call drew reads back as, the sentences say.)
  pub reopening : Reopening
  -- Refusal 19: a plant that is read has a cheapest flow or an overfull set, and never both.
  pub nineteen : Refusal19
  -- A desk tool that works in real numbers: how far its flow is from the metered numbers on a sheet at most.
  pub desk_tool : DeskTool
