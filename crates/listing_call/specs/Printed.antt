-- What the program `balance` prints: the listing of the sheet that a first call of the sheet call draws of the same file. `ListSays file o o' r`
-- is what the call that lists a plant ensures, `SheetSays file 0 (offices_from 0) b b' q` what a first call by office 0 does.
use Rattle.std.specs.Prelude.{◌≡◌, List, ◌++◌, ℕ, ◌≤◌, ◌<◌, length, take}
use Rattle.num_bytes.specs.Inner.{Put}
use Rattle.num_text.specs.Numerals.{text}
use Rattle.sheet_def.specs.declared.Sheet.{Sheet}
use Rattle.sheet_def.specs.Counters.{offices_from}
use Rattle.sheet_def.specs.Sheets.{SheetParts}
use Rattle.sheet_def.specs.Kept.{some_sheet, read_sheet}
use Rattle.sheet_def.specs.Sentences.{call_fault}
use Rattle.sheet_def.specs.Says.{SheetSays}
use Rattle.listing_lines.specs.Listing.{lines_from, total_line, refusal_text}
use Rattle.listing_lines.specs.Room.{least_text}
use Rattle.listing_call.specs.Says.{ListSays}
use Rattle.listing_call.specs.Sample.{sample_file}

-- The listing of a sheet: the lines of its streams, in stream order, then the total's.
abbrev pub sheet_text : SheetParts → List ℕ
sheet_text s = lines_from 1 s.streams ++ total_line s.total.sheet s.total.cost s.total.degrees s.total.verdict

-- What is printed of a file, by what the sheet call answers.
pub record Printed : Type 0 where
  -- A slice that is too short: nothing, and the slice as it was.
  pub short : (file o o' : List ℕ) (r : ℕ) → length o < least_text → ListSays file o o' r → (r ≡ 0) × (o' ≡ o)
  -- The sheet that is drawn of the file, as the sheet reader finds it in the slice.
  pub sheet : (file b b' o o' : List ℕ) (q : Sheet) (s : SheetParts) (r : ℕ) → SheetSays file 0 (offices_from 0) b b' q → q.number ≡ 0
      → read_sheet (take q.written b') ≡ some_sheet s → least_text ≤ length o → ListSays file o o' r → Put (sheet_text s) o o' r
  -- The number with which the file, or its plant, is refused.
  pub refused : (file b b' o o' : List ℕ) (q : Sheet) (r : ℕ) → SheetSays file 0 (offices_from 0) b b' q → call_fault 0 (offices_from 0) b ≡ 0
      → (q.number ≡ 0 → ⊥) → least_text ≤ length o → ListSays file o o' r → Put (refusal_text q.number) o o' r

-- A worked example: the definition's own listing, character for character.
abbrev pub OwnListing : Type 0
OwnListing =
    (o o' : List ℕ) (r : ℕ) → least_text ≤ length o → ListSays sample_file o o' r → Put (text "1 A 99\n2 W -\n3 W -\n4 A 99\ntotal 1 20 1 pass\n") o o' r
