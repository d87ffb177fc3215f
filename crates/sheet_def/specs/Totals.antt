-- A sheet: the kinds of its records, their lengths, and a cost as it is written.
use Rattle.std.specs.Prelude.{ℕ, ◌+◌, ◌*◌, leb}
use Rattle.num_bytes.specs.Choice.{pick}
use Rattle.plant_def.specs.Limits.{max_streams}

-- The kind of a total with the office that drew the sheet: 0x1E.
abbrev pub total_kind : ℕ
total_kind = 30

-- The kind of a plain total, of sheets drawn before there were offices: 0x1F.
abbrev pub plain_kind : ℕ
plain_kind = 31

-- The length of a stream record with a number.
abbrev pub stream_size : ℕ
stream_size = 9

-- The length of what both totals end in: sheet number (4), cost (8), degrees, verdict.
abbrev pub body_size : ℕ
body_size = 14

-- The length of a total with its office,
abbrev pub total_size : ℕ
total_size = 16

-- and of a plain one.
abbrev pub plain_size : ℕ
plain_size = 15

-- The least slice that is taken: as many numbers as there may be, 9 bytes each, and the total, 16. 880 bytes.
abbrev pub least_slice : ℕ
least_slice = max_streams * 9 + 16

-- The greatest cost that 8 bytes hold.
abbrev pub top_cost : ℕ
top_cost = 18446744073709551615

-- A cost as it is written: one that 8 bytes do not hold as the greatest that they hold.
abbrev pub capped : ℕ → ℕ
capped c = pick (leb c top_cost) c top_cost
