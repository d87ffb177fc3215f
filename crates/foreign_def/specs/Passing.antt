-- Sheets drawn up elsewhere: when a sheet passes as a sheet of a plant, with one number for each place.
use Rattle.std.specs.Prelude.{◌≡◌, ◌↔◌, ◌⊎◌, Bool, true, not, ◌&&◌, List, [], ◌∷◌, ℤ, pos, nat_abs, ◌+ℤ◌, ◌-ℤ◌, ◌*ℤ◌, ℕ, suc, ◌≤◌, ◌<◌, length, get_or}
use Rattle.std.specs.Int.Signed.{le_z}
use Rattle.num_bytes.specs.Choice.{pick}
use Rattle.plant_def.specs.declared.Stream.{Stream}
use Rattle.plant_def.specs.Plants.{Plant, limited}
use Rattle.flow_def.specs.Flows.{stream_at, in_range}
use Rattle.flow_def.specs.Chains.{Counting, Chain}
use Rattle.sheet_def.specs.declared.Entry.{Entry}
use Rattle.sheet_def.specs.Sheets.{SheetParts, known}
use Rattle.sheet_def.specs.Sentences.{MeteredAt, UnmeteredAt, class_on, number_on, Tells}

-- The limit of a place's number.
abbrev pub number_limit : ℕ
number_limit = 1000000000000000000

-- The number of place u.
abbrev pub place_number : List ℤ → ℕ → ℤ
place_number numbers u = get_or numbers u (pos 0)

-- A stream's to-place's number minus its from-place's.
abbrev pub difference : List ℤ → Stream → ℤ
difference numbers s = place_number numbers s.to -ℤ place_number numbers s.from

-- What it lies between: weight × (2d − 1) and weight × (2d + 1), d being flow minus reading.
abbrev pub bottom : Stream → ℤ → ℤ
bottom s flow = pos s.weight *ℤ (pos 2 *ℤ (flow -ℤ s.reading) -ℤ pos 1)

-- The upper of the two.
abbrev pub top : Stream → ℤ → ℤ
top s flow = pos s.weight *ℤ (pos 2 *ℤ (flow -ℤ s.reading) +ℤ pos 1)

-- A flow at the high end of the stream's range.
abbrev pub AtHigh : Stream → ℤ → Type 0
AtHigh s flow = (limited s ≡ true) × (flow ≡ s.high)

-- A flow at the low end of the stream's range.
abbrev pub AtLow : Stream → ℤ → Type 0
AtLow s flow = (limited s ≡ true) × (flow ≡ s.low)

-- A sheet b has the classes, degrees, cost and verdict of a. (Its number, its office, the kind of its total and its flows are free.)
pub record Matches (a b : SheetParts) : Type 0 where
  pub count : length b.streams ≡ length a.streams
  pub classes : (k : ℕ) → k < length a.streams → class_on b k ≡ class_on a k
  pub degrees : b.total.degrees ≡ a.total.degrees
  pub cost : b.total.cost ≡ a.total.cost
  pub verdict : b.total.verdict ≡ a.total.verdict

-- Classes, degrees, cost and verdict are ours: those of a sheet that tells of the plant what a sheet has to. So the plant has a sheet.
abbrev pub Ours : Plant → SheetParts → Type 0
Ours p sheet = (s : SheetParts) × Tells p s × Matches s sheet

-- The W streams of a sheet.
abbrev pub withheld_on : SheetParts → Counting
withheld_on sheet k s = not (known (class_on sheet k))

-- A set of places that W streams join: c tells of each place whether chains of W streams join it to u. (Without them: u alone.)
abbrev pub JoinedByW : Plant → SheetParts → ℕ → (ℕ → Bool) → Type 0
JoinedByW p sheet u c = (v : ℕ) → v ≤ p.units → (c v ≡ true) ↔ Chain (withheld_on sheet) p.streams u v

-- The known flows of the streams that a test takes, summed.
abbrev pub known_sum : (Stream → Bool) → List Stream → List Entry → ℤ
known_sum takes [] es = pos 0
known_sum takes (s ∷ ss) [] = pos 0
known_sum takes (s ∷ ss) (e ∷ es) = pick (known e.class && takes s) e.flow (pos 0) +ℤ known_sum takes ss es

-- The sum of those into a set of places,
abbrev pub sum_in : (ℕ → Bool) → List Stream → List Entry → ℤ
sum_in c = known_sum (λ s. c s.to)

-- and of those out of it.
abbrev pub sum_out : (ℕ → Bool) → List Stream → List Entry → ℤ
sum_out c = known_sum (λ s. c s.from)

-- A sheet passes as a sheet of plant p, with these numbers of the places.
pub record Passes (p : Plant) (sheet : SheetParts) (numbers : List ℤ) : Type 0 where
  -- One number for each of the places 0 to n, within the limit.
  pub one_each : length numbers ≡ suc p.units
  pub small : (u : ℕ) → u ≤ p.units → nat_abs (place_number numbers u) ≤ number_limit
  -- Classes, degrees, cost and verdict are ours.
  pub ours : Ours p sheet
  -- For an A or R stream the difference lies from bottom to top; a flow at high may exceed the top, and one at low may fall short
  -- of the bottom.
  pub from_bottom : (k : ℕ) → MeteredAt p k
      → let s = stream_at p.streams k in
      AtLow s (number_on sheet k) ⊎ (le_z (bottom s (number_on sheet k)) (difference numbers s) ≡ true)
  pub to_top : (k : ℕ) → MeteredAt p k
      → let s = stream_at p.streams k in
      AtHigh s (number_on sheet k) ⊎ (le_z (difference numbers s) (top s (number_on sheet k)) ≡ true)
  -- Flows lie in range.
  pub ranges : (k : ℕ) → MeteredAt p k → in_range 1 (stream_at p.streams k) (number_on sheet k) ≡ true
  -- Unmetered streams have equal numbers at both ends.
  pub equal : (k : ℕ) → UnmeteredAt p k
      → let s = stream_at p.streams k in
      place_number numbers s.from ≡ place_number numbers s.to
  -- In each set of places joined by W streams, known flows in and out have equal sums.
  pub sums : (u : ℕ) (c : ℕ → Bool) → u ≤ p.units → JoinedByW p sheet u c → sum_in c p.streams sheet.streams ≡ sum_out c p.streams sheet.streams
