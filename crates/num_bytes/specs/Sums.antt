-- Sums, counts and binary digits.
use Rattle.std.specs.Prelude.{Bool, ℤ, pos, ◌+ℤ◌, ℕ, zero, suc, ◌+◌, ◌/◌, ◌%◌, ◌^◌, eqb}
use Rattle.num_bytes.specs.Choice.{pick}

-- f 0 + .. + f (n - 1)
abbrev pub sum : ℕ → (ℕ → ℤ) → ℤ
sum zero f = pos 0
sum (suc n) f = f n +ℤ sum n f

-- How many of the numbers below n pass a test.
abbrev pub count_to : ℕ → (ℕ → Bool) → ℕ
count_to zero test = 0
count_to (suc n) test = pick (test n) 1 0 + count_to n test

-- Bit h of a number.
abbrev pub bit : ℕ → ℕ → Bool
bit h x = eqb (x / 2 ^ h % 2) 1
