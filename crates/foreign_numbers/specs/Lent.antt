-- Numbers of the places, handed over in a lent slice.
use Rattle.std.specs.Prelude.{List, ℤ, ℕ, ◌≤◌, length}
use Rattle.num_bytes.specs.Bytes.{over}
use Rattle.plant_def.specs.Limits.{places}
use Rattle.num_lent.specs.Lending.{Lending}
use Rattle.foreign_def.specs.Numbers.{PlaceNumbers, no_numbers, numbers_in, NumbersSay}

-- What an answer shows: number and count, and the numbers at the front of the slice, the rest as it was. (A refusal has no numbers: the
-- slice is as it was.)
abbrev pub numbers_shown : List ℤ → PlaceNumbers → ℕ × ℕ × List ℤ
numbers_shown o r = (r.number, r.count, over (numbers_in r) o)

-- The call over a slice, to hold as many as there may be places: what is found after it.
abbrev pub NumbersFound : (file : List ℕ) (o : List ℤ) → ℕ × ℕ × List ℤ → Type 0
NumbersFound file o = Lending (places ≤ length o) no_numbers (NumbersSay file) (numbers_shown o)
