-- What a customer reads in the slice that a call leaves behind: sentences about the sheet that the reader finds there, over the flows of
-- the plant.
use Rattle.std.specs.Prelude.{◌≡◌, ◌↔◌, Bool, true, false, List, ℤ, pos, ◌*ℤ◌, ℕ, zero, suc, ◌+◌, ◌*◌, ◌≤◌, ◌<◌, eqb, ltb, leb, length, get_or, take, drop}
use Rattle.num_bytes.specs.Choice.{pick, refuse_if, first_of}
use Rattle.plant_def.specs.Limits.{max_units}
use Rattle.plant_def.specs.Plants.{Plant}
use Rattle.plant_def.specs.Files.{bad, got, read_plant}
use Rattle.flow_def.specs.Flows.{stream_at, amount_at, balanced, allowed_over, allowed, cost, cost_over, Agree, Cheapest, nearest}
use Rattle.flow_def.specs.Chains.{every_stream, unmetered_only, Chain, OneEach}
use Rattle.flow_def.specs.Test.{critical_at, verdict_at}
use Rattle.flow_def.specs.Overfull.{unmarked, Overfull}
use Rattle.flow_def.specs.declared.Class.{Class}
use Rattle.flow_def.specs.declared.Class.TheVariants.{Adjusted, AsRead, Given, Withheld}
use Rattle.sheet_def.specs.declared.Sheet.{Sheet}
use Rattle.sheet_def.specs.Totals.{total_kind, least_slice, capped}
use Rattle.sheet_def.specs.Sheets.{kind_of, SheetParts}
use Rattle.sheet_def.specs.Kept.{blank, some_sheet, read_sheet}
use Rattle.sheet_def.specs.Counters.{offices, top_sheet, counter_of, next_of, raised}

-- Stream i, from 0, is listed, and metered.
abbrev pub MeteredAt : Plant → ℕ → Type 0
MeteredAt p i = (i < length p.streams) × ((stream_at p.streams i).metered ≡ true)

-- Stream i is listed, and unmetered.
abbrev pub UnmeteredAt : Plant → ℕ → Type 0
UnmeteredAt p i = (i < length p.streams) × ((stream_at p.streams i).metered ≡ false)

-- A chain of unmetered streams joins the ends of stream i.
abbrev pub EndsJoined : Plant → ℕ → Type 0
EndsJoined p i = Chain unmetered_only p.streams (stream_at p.streams i).from (stream_at p.streams i).to

-- Every two balanced flows that agree on all metered streams agree on stream i.
abbrev pub Forced : Plant → ℕ → Type 0
Forced p i = (ys zs : List ℤ) → Agree p ys zs → amount_at ys i ≡ amount_at zs i

-- Some two balanced flows that agree on all metered streams differ on stream i.
abbrev pub Free : Plant → ℕ → Type 0
Free p i = (ys : List ℤ) × (zs : List ℤ) × Agree p ys zs × (amount_at ys i ≡ amount_at zs i → ⊥)

-- The class of stream i of a sheet, from 0.
abbrev pub class_on : SheetParts → ℕ → Class
class_on s i = (get_or s.streams i blank).class

-- The number beside stream i of a sheet, from 0; 0 where it is blank.
abbrev pub number_on : SheetParts → ℕ → ℤ
number_on s i = (get_or s.streams i blank).flow

-- The metered amounts of a flow, its amounts over d, are those on the sheet.
abbrev pub MetersAs : Plant → SheetParts → ℕ → List ℤ → Type 0
MetersAs p s d ys = (k : ℕ) → MeteredAt p k → amount_at ys k ≡ pos d *ℤ number_on s k

-- The summed weights of the A streams among the first k.
abbrev pub weights_to : Plant → SheetParts → ℕ → ℕ
weights_to p s zero = 0
weights_to p s (suc k) = pick (eqb (kind_of (class_on s k)) (kind_of Adjusted)) (stream_at p.streams k).weight 0 + weights_to p s k

-- The summed weights of all A streams.
abbrev pub adjusted_weights : Plant → SheetParts → ℕ
adjusted_weights p s = weights_to p s (length p.streams)

-- A sheet s of plant p.
pub record Tells (p : Plant) (s : SheetParts) : Type 0 where
  -- It lists the streams of the plant, in their order.
  pub listed : length s.streams ≡ length p.streams
  -- A metered stream is A exactly when no chain of unmetered streams joins its ends, R exactly when one does; R is the nearest
  -- value in range to its reading.
  pub adjusted : (i : ℕ) → MeteredAt p i → (class_on s i ≡ Adjusted) ↔ (EndsJoined p i → ⊥)
  pub as_read : (i : ℕ) → MeteredAt p i → (class_on s i ≡ AsRead) ↔ EndsJoined p i
  pub reading : (i : ℕ) → MeteredAt p i → class_on s i ≡ AsRead → number_on s i ≡ nearest (stream_at p.streams i)
  -- An unmetered stream has a number, G, exactly when every two flows that agree on the meters agree on it, a blank, W, exactly
  -- when some two differ.
  pub given : (i : ℕ) → UnmeteredAt p i → (class_on s i ≡ Given) ↔ Forced p i
  pub withheld : (i : ℕ) → UnmeteredAt p i → (class_on s i ≡ Withheld) ↔ Free p i
  -- The number of a G stream is its amount in every balanced flow, in fractions too, with the sheet's metered amounts.
  pub number : (i d : ℕ) (ys : List ℤ) → UnmeteredAt p i → class_on s i ≡ Given → balanced p ys ≡ true → MetersAs p s d ys
      → amount_at ys i ≡ pos d *ℤ number_on s i
  -- There is a cheapest flow; of every one, the metered numbers are its amounts, and the cost is its cost as it is written.
  pub some : (xs : List ℤ) × Cheapest p xs
  pub metered : (xs : List ℤ) → Cheapest p xs → (i : ℕ) → MeteredAt p i → number_on s i ≡ amount_at xs i
  pub costs : (xs : List ℤ) → Cheapest p xs → s.total.cost ≡ capped (cost p.streams xs)
  -- No flow in fractions, within all ranges, undercuts its cost by more than a quarter of the summed weights of the A streams.
  pub near : (xs : List ℤ) → Cheapest p xs → (d : ℕ) (ys : List ℤ) → 1 ≤ d → allowed_over d p ys ≡ true
      → 4 * (d * d) * cost p.streams xs ≤ 4 * cost_over d p.streams ys + d * d * adjusted_weights p s
  -- Degrees: the number of groups, by chains of unmetered streams, less that of pieces, by chains of any streams.
  pub groups : (gs : List ℕ) × OneEach unmetered_only p gs
  pub pieces : (cs : List ℕ) × OneEach every_stream p cs
  pub degrees : (gs cs : List ℕ) → OneEach unmetered_only p gs → OneEach every_stream p cs → s.total.degrees + length cs ≡ length gs
  pub few : s.total.degrees ≤ max_units
  -- The verdict by these degrees, the cost itself and the summed weights of the A streams.
  pub verdict : (xs : List ℤ) → Cheapest p xs → s.total.verdict ≡ verdict_at s.total.degrees (cost p.streams xs) (adjusted_weights p s)
  -- What it means. Pass, 0: the sheet's own flow costs at most the critical value. Fail, 1: every balanced flow in fractions,
  -- within all ranges, costs more.
  pub passes : s.total.verdict ≡ 0 → (xs : List ℤ) → Cheapest p xs → cost p.streams xs ≤ critical_at s.total.degrees
  pub fails : s.total.verdict ≡ 1 → (d : ℕ) (ys : List ℤ) → 1 ≤ d → allowed_over d p ys ≡ true
      → d * d * critical_at s.total.degrees < cost_over d p.streams ys

-- Its total: the kind, the office that drew it, and the sheet's number.
pub record Under (kind office n : ℕ) (s : SheetParts) : Type 0 where
  pub kinded : s.total.kind ≡ kind
  pub drawer : s.total.office ≡ office
  pub numbered : s.total.sheet ≡ n

-- The refusals of the call itself: a slice under 880 bytes 1, an office above 7, which has no counter, 22, no sheet number left of
-- the calling office's 2.
abbrev pub call_fault : ℕ → List ℕ → List ℕ → ℕ
call_fault office lasts o =
    first_of (refuse_if (ltb (length o) least_slice) 1) (first_of (refuse_if (leb offices office) 22) (refuse_if (eqb (counter_of office lasts) top_sheet) 2))

-- A refusal that marks these places: its number, nothing written, counters and slice as they were.
abbrev pub RefusedWith : List Bool → ℕ → List ℕ → List ℕ → List ℕ → Sheet → Type 0
RefusedWith ms f lasts o o' r = (r ≡ record { number = f; written = 0; lasts = lasts; marked = ms }) × (o' ≡ o)

-- All refusals but 19 mark none.
abbrev pub Refused : ℕ → List ℕ → List ℕ → List ℕ → Sheet → Type 0
Refused f lasts o o' r = RefusedWith unmarked f lasts o o' r

-- Refusal 19: which set is marked is the program's choice; every one is overfull.
abbrev pub Overfilled : Plant → List ℕ → List ℕ → List ℕ → Sheet → Type 0
Overfilled p lasts o o' r = (ms : List Bool) × Overfull p ms × RefusedWith ms 19 lasts o o' r

-- A full sheet: 0, and so many bytes, in which the sheet reader finds a sheet, and nothing after it, that tells of the plant what it
-- has to; the calling office's counter one higher, which is the sheet's number, the other counters as they were; the slice past it as
-- it was.
pub record Full (p : Plant) (office : ℕ) (lasts o o' : List ℕ) (r : Sheet) : Type 0 where
  pub result : r ≡ record { number = 0; written = r.written; lasts = raised office lasts; marked = unmarked }
  pub sheet : SheetParts
  pub read : read_sheet (take r.written o') ≡ some_sheet sheet
  pub tells : Tells p sheet
  pub under : Under total_kind office (next_of office lasts) sheet
  pub past : drop r.written o' ≡ drop r.written o
  pub fits : r.written ≤ length o
  pub long : length o' ≡ length o

-- What a call answers: the slice o before it and o' after it, the office and the counters handed in, and what it hands over.
pub record Answers (file : List ℕ) (office : ℕ) (lasts o o' : List ℕ) (r : Sheet) : Type 0 where
  pub unfit : (call_fault office lasts o ≡ 0 → ⊥) → Refused (call_fault office lasts o) lasts o o' r
  pub unread : (f : ℕ) → call_fault office lasts o ≡ 0 → read_plant file ≡ bad f → (f ≡ 0 → ⊥) × Refused f lasts o o' r
  -- A plant that is read, with a balanced flow within all ranges and without.
  pub full : (p : Plant) (ys : List ℤ) → call_fault office lasts o ≡ 0 → read_plant file ≡ got p → allowed p ys ≡ true
      → Full p office lasts o o' r
  pub overfull : (p : Plant) → call_fault office lasts o ≡ 0 → read_plant file ≡ got p → ((ys : List ℤ) → allowed p ys ≡ false)
      → Overfilled p lasts o o' r
