-- Numbers in decimal, as text. Characters stand as their numbers.
use Rattle.std.specs.Prelude.{List, [], ◌∷◌, ◌++◌, ℤ, pos, negsuc, ℕ, zero, suc, ◌+◌, ◌/◌, ◌%◌, ltb}
use Prim.Native.Char.{code}
use Prim.Native.String as String
use Rattle.num_bytes.specs.Choice.{pick}

-- The characters of a text.
abbrev pub text : String.String → List ℕ
text String.[] = []
text (String.◌∷◌ c cs) = code c ∷ text cs

-- The character of a digit.
abbrev pub digit : ℕ → ℕ
digit d = code "0" + d

-- A number in decimal, with at most so many digits before its last one: no zero in front, and 0 for nothing.
abbrev pub digits_of : ℕ → ℕ → List ℕ
digits_of zero n = digit n ∷ []
digits_of (suc more) n = pick (ltb n 10) (digit n ∷ []) (digits_of more (n / 10) ++ (digit (n % 10) ∷ []))

-- A number n in decimal. It has no more than n digits before its last one.
unfoldable pub decimal : ℕ → List ℕ
decimal n = digits_of n n

-- A signed number, with a minus sign below 0.
abbrev pub signed_decimal : ℤ → List ℕ
signed_decimal (pos n) = decimal n
signed_decimal (negsuc n) = text "-" ++ decimal (suc n)

-- A number and the blank behind it.
abbrev pub field : ℕ → List ℕ
field n = decimal n ++ text " "

-- A line of two numbers.
abbrev pub pair_line : ℕ → ℕ → List ℕ
pair_line n m = field n ++ decimal m ++ text "\n"
