-- The check as a computed test. For proofs and for what inner calls promise: no public promise cites it.
use Rattle.std.specs.Prelude.{◌≡◌, Bool, not, ◌&&◌, ◌||◌, List, ℤ, pos, neg_ℤ, nat_abs, ◌+ℤ◌, ◌-ℤ◌, ℕ, suc, ◌+◌, ◌*◌, ◌^◌, ◌≤◌, ◌<◌, eqb, leb, length, get_or, take}
use Rattle.std.specs.Int.Signed.{le_z}
use Rattle.num_bytes.specs.Choice.{pick}
use Rattle.num_bytes.specs.Inner.{values}
use Rattle.plant_def.specs.declared.Stream.{Stream}
use Rattle.plant_def.specs.Limits.{places, max_streams}
use Rattle.plant_def.specs.Plants.{Plant}
use Rattle.plant_def.specs.Files.{Got, bad, got}
use Rattle.flow_def.specs.Flows.{stream_at, in_range, cost}
use Rattle.flow_def.specs.Chains.{Counting}
use Rattle.flow_def.specs.declared.Class.{Class}
use Rattle.flow_def.specs.declared.Class.TheVariants.{Adjusted}
use Rattle.flow_def.specs.Classes.{class_of, degrees}
use Rattle.flow_def.specs.Labels.{labels_of}
use Rattle.flow_def.specs.Test.{verdict_at}
use Rattle.flow_def.specs.Shown.{adjusted}
use Rattle.flow_def.specs.Certificate.{least_climb, most_climb, rises, falls, every}
use Rattle.num_bytes.specs.Sums.{sum}
use Rattle.solve_def.specs.Sizes.{flow_shift}
use Rattle.sheet_def.specs.Calls.{no_entry}
use Rattle.sheet_def.specs.Totals.{capped}
use Rattle.sheet_def.specs.declared.Entry.{Entry}
use Rattle.sheet_def.specs.declared.Total.{Total}
use Rattle.sheet_def.specs.declared.SheetRead.{SheetRead}
use Rattle.sheet_def.specs.Sheets.{SheetParts, kind_of, known}
use Rattle.sheet_def.specs.Kept.{Reopened, no_sheet, some_sheet}
use Rattle.sheet_def.specs.Sentences.{class_on, number_on}
use Rattle.foreign_def.specs.Passing.{number_limit, place_number, difference}

-- The streams that are withheld by their class as it is computed.
abbrev pub withheld_only : Plant → Counting
withheld_only p k s = not (known (class_of p k))

-- The flow of stream k on a sheet, 0 where the stream is withheld by its class.
abbrev pub shown_at : Plant → SheetParts → ℕ → ℤ
shown_at p sheet k = pick (known (class_of p k)) (number_on sheet k) (pos 0)

-- The flows of a sheet in a list, 0 where a stream is withheld by its class.
abbrev pub shown_flows : Plant → SheetParts → List ℤ
shown_flows p sheet = values (length p.streams) (shown_at p sheet)

-- One number for each of the places 0 to n, within the limit.
abbrev pub numbers_fit : ℕ → List ℤ → Bool
numbers_fit n numbers = eqb (length numbers) (suc n) && every (suc n) (λ u. leb (nat_abs (place_number numbers u)) number_limit)

-- Of the first m streams: their records are of our kinds, and the flows not too large for sums and products of 64 bits.
abbrev pub records_fit : ℕ → (ℕ → Class) → (ℕ → Class) → (ℕ → ℤ) → Bool
records_fit m theirs ours x = every m (λ k. eqb (kind_of (theirs k)) (kind_of (ours k)) && leb (nat_abs (x k)) flow_shift)

-- A flow x is in range, and the difference c of the numbers at the stream's ends is within its bounds.
abbrev pub flow_fits : Stream → ℤ → ℤ → Bool
flow_fits s x c = in_range 1 s x && ((not (falls s x) || le_z (least_climb s x) c) && (not (rises s x) || le_z c (most_climb s x)))

-- So it is with every stream.
abbrev pub flows_fit : List Stream → (ℕ → ℤ) → List ℤ → Bool
flows_fit ss x numbers = every (length ss) (λ k. flow_fits (stream_at ss k) (x k) (difference numbers (stream_at ss k)))

-- What stream s, carrying x, brings to label v, less what it takes from it.
abbrev pub brought_by : List ℕ → ℕ → Stream → ℤ → ℤ
brought_by labels v s x = pick (eqb (get_or labels s.to 0) v) x (pos 0) +ℤ pick (eqb (get_or labels s.from 0) v) (neg_ℤ x) (pos 0)

-- The net of the places that have label v.
abbrev pub net_by : List ℕ → List Stream → (ℕ → ℤ) → ℕ → ℤ
net_by labels ss x v = sum (length ss) (λ k. brought_by labels v (stream_at ss k) (x k))

-- A list of the nets of all labels.
abbrev pub Nets : List ℕ → List Stream → (ℕ → ℤ) → List ℤ → Type 0
Nets labels ss x nets = (v : ℕ) → v < places → get_or nets v (pos 0) ≡ net_by labels ss x v

-- Every label is a place.
abbrev pub ArePlaces : List ℕ → Type 0
ArePlaces labels = (u : ℕ) → u < places → get_or labels u 0 < places

-- What a stream that carries x makes of the nets, from one label to another.
pub record Moved (to from : ℕ) (x : ℤ) (before after : List ℤ) : Type 0 where
  pub long : length after ≡ length before
  pub each : (v : ℕ) → v < places → get_or after v (pos 0) ≡ get_or before v (pos 0) +ℤ (pick (eqb to v) x (pos 0) +ℤ pick (eqb from v) (neg_ℤ x) (pos 0))

-- Nets with room in 64 bits for a stream that carries x.
abbrev pub Roomy : ℤ → List ℤ → Type 0
Roomy x nets = (v : ℕ) → v < places → nat_abs (get_or nets v (pos 0)) + 2 * nat_abs x < 2 ^ 62

-- The nets of all labels are 0.
unfoldable pub nets_fit : List ℕ → List Stream → (ℕ → ℤ) → Bool
nets_fit labels ss x = every places (λ v. eqb (nat_abs (net_by labels ss x v)) 0)

-- Degrees are ours, cost and verdict those of flows that cost c.
abbrev pub total_fits : Plant → ℕ → Total → Bool
total_fits p c total =
    eqb total.degrees (degrees p) && (eqb total.cost (capped c) && eqb total.verdict (verdict_at (degrees p) c (adjusted p)))

-- The whole test: the sets of places that W streams join by their labels, and the cost by the flows shown.
unfoldable pub passes : Plant → SheetParts → List ℤ → Bool
passes p sheet numbers =
    let x = shown_at p sheet in
    numbers_fit p.units numbers
    && (eqb (length sheet.streams) (length p.streams)
    && (records_fit (length p.streams) (class_on sheet) (class_of p) x
    && (flows_fit p.streams x numbers
    && (nets_fit (labels_of (withheld_only p) p) p.streams x && total_fits p (cost p.streams (shown_flows p sheet)) sheet.total))))

-- A place's potential less that of the outside.
abbrev pub potential_from : List ℕ → ℕ → ℤ
potential_from ps u = pos (get_or ps u 0) -ℤ pos (get_or ps 0 0)

-- One number for each of the places 0 to n, by its potential; 0 past them.
pub record NumberedBy (n : ℕ) (ps : List ℕ) (numbers : List ℤ) : Type 0 where
  pub long : length numbers ≡ places
  pub each : (u : ℕ) → u ≤ n → place_number numbers u ≡ potential_from ps u
  pub past : (u : ℕ) → n < u → place_number numbers u ≡ pos 0

-- The flows of a sheet's entries in an array, by classes in an array: 0 where a stream is withheld.
unfoldable pub flows_shown : List Class → List Entry → List ℤ
flows_shown classes entries = values max_streams (λ k. pick (known (get_or classes k Adjusted)) (get_or entries k no_entry).flow (pos 0))

-- A sheet's parts, as the reader hands them over.
abbrev pub parts_in : SheetRead → SheetParts
parts_in r = record { streams = take r.count r.streams; total = r.total }

-- The check's number.
abbrev pub check_with : Got → Reopened → List ℤ → ℕ
check_with (bad f) sheet numbers = f
check_with (got p) (no_sheet f) numbers = f
check_with (got p) (some_sheet s) numbers = pick (passes p s numbers) 0 26
