-- The counters over any sequence of calls by any offices, accepted and refused. `SheetSays file office lasts o o' r` is what the sheet
-- call ensures.
use Rattle.std.specs.Prelude.{◌≡◌, ◌↔◌, Bool, true, ◌&&◌, List, [], ◌∷◌, ◌++◌, ℕ, zero, suc, ◌+◌, ◌≤◌, eqb, length, take}
use Rattle.num_bytes.specs.Choice.{pick}
use Rattle.num_bytes.specs.Bytes.{all_bytes}
use Rattle.plant_def.specs.Plants.{Plant}
use Rattle.plant_def.specs.Files.{got, read_plant}
use Rattle.sheet_def.specs.declared.Sheet.{Sheet}
use Rattle.sheet_def.specs.Counters.{offices, top_sheet, counter_of, next_of, offices_from}
use Rattle.sheet_def.specs.Says.{SheetSays}
use Rattle.sheet_def.specs.Kept.{Reopened, no_sheet, some_sheet, read_sheet, WithinSheet}
use Rattle.sheet_def.specs.Totals.{plain_kind}
use Rattle.sheet_def.specs.Sheets.{SheetParts, parts_bytes}
use Rattle.sheet_def.specs.Sentences.{Tells, Under, call_fault}
use Rattle.sheet_history.specs.Before.{PlainSays, read_before}

-- A call: its plant file, the calling office, the slice before it and after it, and what it handed over.
pub record Call : Type 0 where
  pub file : List ℕ
  pub office : ℕ
  pub before : List ℕ
  pub after : List ℕ
  pub answer : Sheet

-- Calls one after the other, each handed the counters that the one before it gave back.
abbrev pub Calls : List ℕ → List Call → Type 0
Calls lasts [] = Unit {0}
Calls lasts (c ∷ cs) = SheetSays c.file c.office lasts c.before c.after c.answer × Calls c.answer.lasts cs

-- The counters after the last of them.
abbrev pub counters_after : List ℕ → List Call → List ℕ
counters_after lasts [] = lasts
counters_after lasts (c ∷ cs) = counters_after c.answer.lasts cs

-- Calls before there were offices, all by office 0, each handed the one number that the one before it gave back.
abbrev pub PlainCalls : ℕ → List Call → Type 0
PlainCalls last [] = Unit {0}
PlainCalls last (c ∷ cs) = (c.office ≡ 0) × PlainSays c.file last c.before c.after c.answer × PlainCalls (counter_of 0 c.answer.lasts) cs

-- A call drew a sheet, and for office k.
abbrev pub drew : ℕ → Call → Bool
drew k c = eqb c.answer.number 0 && eqb c.office k

-- How many sheets of office k the calls drew.
abbrev pub drawn_count : ℕ → List Call → ℕ
drawn_count k [] = 0
drawn_count k (c ∷ cs) = pick (drew k c) (suc (drawn_count k cs)) (drawn_count k cs)

-- The sheets that the calls drew, of all offices, in their order.
abbrev pub drawn_sheets : List Call → List (List ℕ)
drawn_sheets [] = []
drawn_sheets (c ∷ cs) = pick (eqb c.answer.number 0) (take c.answer.written c.after ∷ drawn_sheets cs) (drawn_sheets cs)

-- The number of a sheet that was read, where it is of office k; else none.
abbrev pub number_read : ℕ → Reopened → List ℕ
number_read k (no_sheet f) = []
number_read k (some_sheet s) = pick (eqb s.total.office k) (s.total.sheet ∷ []) []

-- The numbers of office k's sheets among kept sheets, in their order, as the sheet reader has them.
abbrev pub numbers_of : ℕ → List (List ℕ) → List ℕ
numbers_of k [] = []
numbers_of k (b ∷ bs) = number_read k (read_sheet b) ++ numbers_of k bs

-- The j numbers from n on, each once.
abbrev pub up_from : ℕ → ℕ → List ℕ
up_from n zero = []
up_from n (suc j) = n ∷ up_from (suc n) j

-- The counters that a call may be handed: eight, of 32 bits.
pub record Eight (lasts : List ℕ) : Type 0 where
  pub long : length lasts ≡ offices
  pub fit : (k : ℕ) → counter_of k lasts ≤ top_sheet

-- A call before the change that drew a sheet: it reads back with its kind, as that of office 0, and tells of the plant what a sheet has to.
pub record ReadsPlain (file : List ℕ) (last : ℕ) (o' : List ℕ) (r : Sheet) : Type 0 where
  pub plant : Plant
  pub listed : read_plant file ≡ got plant
  pub sheet : SheetParts
  pub read : read_sheet (take r.written o') ≡ some_sheet sheet
  pub tells : Tells plant sheet
  pub under : Under plain_kind 0 (suc last) sheet

-- What is promised of any sequence of calls.
pub record History : Type 0 where
  -- No call alters another office's number, nor does what it returns and leaves behind depend on one: its refusal, the bytes written
  -- and the slice go by the calling office's number alone.
  pub others : (file : List ℕ) (office : ℕ) (lasts o o' : List ℕ) (r : Sheet) → SheetSays file office lasts o o' r
      → (k : ℕ) → (k ≡ office → ⊥) → counter_of k r.lasts ≡ counter_of k lasts
  pub alone : (file : List ℕ) (office : ℕ) (lasts₁ lasts₂ o o₁ o₂ : List ℕ) (r₁ r₂ : Sheet) → counter_of office lasts₁ ≡ counter_of office lasts₂
      → SheetSays file office lasts₁ o o₁ r₁ → SheetSays file office lasts₂ o o₂ r₂ → (r₁.number ≡ r₂.number) × (r₁.written ≡ r₂.written) × (o₁ ≡ o₂)
  -- An office above 7 has no counter: its calls are refused, and alter none.
  pub unknown : (file : List ℕ) (office : ℕ) (lasts o o' : List ℕ) (r : Sheet) → SheetSays file office lasts o o' r → offices ≤ office
      → (r.number ≡ 0 → ⊥) × (r.lasts ≡ lasts)
  -- Any calls by any offices leave eight counters. An office's next number is what it was plus how many of its own sheets were drawn,
  -- and these have the numbers from there on, each once: none twice and none left out.
  pub kept : (lasts : List ℕ) (cs : List Call) → Eight lasts → Calls lasts cs → Eight (counters_after lasts cs)
  pub next : (lasts : List ℕ) (cs : List Call) → Eight lasts → Calls lasts cs → (k : ℕ)
      → next_of k (counters_after lasts cs) ≡ next_of k lasts + drawn_count k cs
  pub numbers : (lasts : List ℕ) (cs : List Call) → Eight lasts → Calls lasts cs → (k : ℕ)
      → numbers_of k (drawn_sheets cs) ≡ up_from (next_of k lasts) (drawn_count k cs)
  -- The sheet reader of before read exactly the sheets under a plain total (kind 0x1F), and they are read as before: the same parts,
  -- office 0.
  pub read_before_lem : (b : List ℕ) (s : SheetParts) → all_bytes b ≡ true
      → (read_before b ≡ some_sheet s) ↔ ((parts_bytes s ≡ b) × WithinSheet s × (s.total.kind ≡ plain_kind))
  pub as_before : (b : List ℕ) (s : SheetParts) → read_before b ≡ some_sheet s
      → (read_sheet b ≡ some_sheet s) × (s.total.kind ≡ plain_kind) × (s.total.office ≡ 0)
  -- Every call before the change had an answer; and its number, where a call of today is not refused by its own tests, is that of today.
  pub before : (file : List ℕ) (last : ℕ) (o : List ℕ) → (o' : List ℕ) × (r : Sheet) × PlainSays file last o o' r
  pub as_today : (file : List ℕ) (lasts o o₁ o₂ : List ℕ) (r s : Sheet) → call_fault 0 lasts o ≡ 0
      → PlainSays file (counter_of 0 lasts) o o₁ r → SheetSays file 0 lasts o o₂ s → r.number ≡ s.number
  -- Before the change and after it: the sheets of office 0 follow on in number.
  pub plain : (file : List ℕ) (last : ℕ) (o o' : List ℕ) (r : Sheet) → last ≤ top_sheet → PlainSays file last o o' r → r.number ≡ 0
      → ReadsPlain file last o' r
  pub change : (first : ℕ) (ps : List Call) → first ≤ top_sheet → PlainCalls first ps → Eight (offices_from (counter_of 0 (counters_after (first ∷ []) ps)))
  pub follow : (first : ℕ) (ps cs : List Call) → first ≤ top_sheet → PlainCalls first ps → Calls (offices_from (counter_of 0 (counters_after (first ∷ []) ps))) cs
      → numbers_of 0 (drawn_sheets (ps ++ cs)) ≡ up_from (suc first) (drawn_count 0 (ps ++ cs))
