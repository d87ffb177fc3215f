-- What is lent to a call: a slice, an array, or a number.
use Rattle.std.specs.Borrow.{Bor, MutBor}
use denote.Triple.Both.{Both}

-- As it is at the call's entry and as it is at its exit, lent to be read: `x.entry.now` and `x.exit.now`.
abbrev pub Lent : Type 0 → Type 0
Lent A = Both (Bor A) (Bor A)

-- The same of what is lent to be written.
abbrev pub LentMut : Type 0 → Type 0
LentMut A = Both (MutBor A) (MutBor A)
