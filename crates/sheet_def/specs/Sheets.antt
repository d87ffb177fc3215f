-- A sheet: one record per stream in stream order, then the total, with no gap.
use Rattle.std.specs.Prelude.{Bool, true, false, List, [], ◌∷◌, ◌++◌, ℤ, ℕ, eqb}
use Rattle.num_bytes.specs.Choice.{pick}
use Rattle.num_bytes.specs.Bytes.{put_be, raw}
use Rattle.flow_def.specs.declared.Class.{Class}
use Rattle.flow_def.specs.declared.Class.TheVariants.{Adjusted, AsRead, Given, Withheld}
use Rattle.sheet_def.specs.declared.Entry.{Entry}
use Rattle.sheet_def.specs.declared.Total.{Total}
use Rattle.sheet_def.specs.Totals.{total_kind}

-- The kinds of a stream's record: 0x11 A, adjusted; 0x12 R, as read; 0x13 G, given; 0x14 W, withheld (the blank).
abbrev pub kind_of : Class → ℕ
kind_of Adjusted = 17
kind_of AsRead = 18
kind_of Given = 19
kind_of Withheld = 20

-- 0x11, A.
abbrev pub adjusted_kind : ℕ
adjusted_kind = kind_of Adjusted

-- 0x12, R.
abbrev pub as_read_kind : ℕ
as_read_kind = kind_of AsRead

-- 0x13, G.
abbrev pub given_kind : ℕ
given_kind = kind_of Given

-- 0x14, W.
abbrev pub withheld_kind : ℕ
withheld_kind = kind_of Withheld

-- A flow is known where its record has a number: all but W.
abbrev pub known : Class → Bool
known Adjusted = true
known AsRead = true
known Given = true
known Withheld = false

-- A stream's record: the flow in 8 bytes, two's complement; the blank has no body.
abbrev pub record_of : Class → ℤ → List ℕ
record_of c x = kind_of c ∷ pick (known c) (put_be 8 (raw 8 x)) []

-- The records of streams.
abbrev pub records_of : List Entry → List ℕ
records_of [] = []
records_of (e ∷ es) = record_of e.class e.flow ++ records_of es

-- What a total ends in: sheet number (4), cost (8), degrees, verdict.
abbrev pub body_of : ℕ → ℕ → ℕ → ℕ → List ℕ
body_of n c d v = put_be 4 n ++ put_be 8 c ++ (d ∷ v ∷ [])

-- The total of a sheet that is drawn: an office byte goes before.
abbrev pub total_of : ℕ → ℕ → ℕ → ℕ → ℕ → List ℕ
total_of office n c d v = total_kind ∷ office ∷ body_of n c d v

-- The bytes of a total of either kind: the plain one has no office byte.
abbrev pub total_bytes : Total → List ℕ
total_bytes t = t.kind ∷ pick (eqb t.kind total_kind) (t.office ∷ []) [] ++ body_of t.sheet t.cost t.degrees t.verdict

-- A sheet by its parts: an entry for each stream, in stream order, and the total.
pub record SheetParts : Type 0 where
  pub streams : List Entry
  pub total : Total

-- The bytes of a sheet: the records of its streams, then the total.
abbrev pub parts_bytes : SheetParts → List ℕ
parts_bytes s = records_of s.streams ++ total_bytes s.total
