-- The answer of the sheet call, its marked places as the bits of a number.
use Rattle.std.specs.Prelude.{List, ℕ}
use Rattle.num_lent.specs.Marks.{marks_in}
use Rattle.sheet_def.specs.declared.Sheet.{Sheet}

-- An answer by its number, the bytes written, the counters and the bits.
abbrev pub with_bits : ℕ → ℕ → List ℕ → ℕ → Sheet
with_bits number written lasts bits = record { number = number; written = written; lasts = lasts; marked = marks_in bits }
