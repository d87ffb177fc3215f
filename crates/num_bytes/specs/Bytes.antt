-- Multi-byte fields, high byte first (big-endian), and two's complement, at any width; bytes laid over a slice.
use Rattle.std.specs.Prelude.{Bool, true, ◌&&◌, List, [], ◌∷◌, ◌++◌, ℤ, pos, negsuc, ℕ, zero, suc, ◌+◌, ◌-◌, ◌*◌, ◌/◌, ◌%◌, ◌^◌, ltb, leb, length, take, drop}
use Rattle.num_bytes.specs.Choice.{pick}

-- The number whose higher digits are v and whose further bytes are bs.
abbrev pub be_from : ℕ → List ℕ → ℕ
be_from v [] = v
be_from v (b ∷ bs) = be_from (256 * v + b) bs

-- The field of n bytes at place i.
abbrev pub be : ℕ → ℕ → List ℕ → ℕ
be i n s = be_from 0 (take n (drop i s))

-- The n bytes of a number.
abbrev pub put_be : ℕ → ℕ → List ℕ
put_be zero v = []
put_be (suc n) v = put_be n (v / 256) ++ (v % 256 ∷ [])

-- The signed number that n bytes stand for, two's complement.
abbrev pub signed : ℕ → ℕ → ℤ
signed n v = pick (ltb (2 * v) (256 ^ n)) (pos v) (negsuc (256 ^ n - suc v))

-- What n bytes hold for a signed number, two's complement.
abbrev pub raw : ℕ → ℤ → ℕ
raw n (pos a) = a
raw n (negsuc a) = 256 ^ n - suc a

-- Whether n bytes hold a signed number, two's complement.
abbrev pub holds : ℕ → ℤ → Bool
holds n (pos a) = ltb (2 * a) (256 ^ n)
holds n (negsuc a) = leb (2 * suc a) (256 ^ n)

-- Each element is a byte.
abbrev pub all_bytes : List ℕ → Bool
all_bytes [] = true
all_bytes (b ∷ bs) = ltb b 256 && all_bytes bs

-- Elements laid over the front of a slice; those past them as they were.
abbrev pub over : {A : Type 0} → List A → List A → List A
over xs ys = xs ++ drop (length xs) ys
