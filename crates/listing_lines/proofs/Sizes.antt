-- How long the parts of a listing are.
use mathlib.Core.Path.{◌≡◌, sym, ap, ◌∙◌}
use mathlib.Core.List.{List, ◌++◌}
use mathlib.Core.Bool.{Bool, true, false}
use lib.IntN.{ℤ, pos, negsuc, nat_abs}
use Prim.Native.Nat.{ℕ, suc, ◌+◌, ◌^◌, ◌<◌, ◌≤◌}
use native.Mathlib.Omega.{arith}
use lib.Dec.{eqb}
use lib.ListN.{length, drop, length-append}
use lib.Seq.{length-take-le}
use mir.Syntax.{w64}
use mir.Val.{SFits}
use Rattle.num_bytes.specs.Choice.{pick}
use Rattle.num_bytes.specs.Inner.{Put}
use Rattle.flow_def.specs.declared.Class.{Class}
use Rattle.flow_def.specs.declared.Class.TheVariants.{Adjusted, AsRead, Given, Withheld}
use Rattle.num_text.specs.Numerals.{text, decimal, signed_decimal, field}
use Rattle.listing_lines.specs.Listing.{entry_text, word_of, total_line, refusal_text}
use Rattle.listing_lines.specs.Room.{line_size, total_size, refusal_size, Counts}
use Rattle.num_text.proofs.Decimals.{decimal_most, field_size}

-- The line of a stream.
pub line_size_lem : (n : ℕ) (c : Class) (x : ℤ) → length (field n ++ entry_text c x ++ text "\n") ≡ length (field n) + length (entry_text c x) + 1
line_size_lem n c x =
    length-append (field n ++ entry_text c x) (text "\n") ∙ ap (λ (k : ℕ). k + 1) (length-append (field n) (entry_text c x))

signed_most : (x : ℤ) → nat_abs x < 10 ^ 19 → length (signed_decimal x) ≤ 20
signed_most (pos n) h = omega (arith, decimal_most 18 n h)
signed_most (negsuc n) h = omega (arith, decimal_most 18 (suc n) h)

entry_most : (c : Class) (x : ℤ) → nat_abs x < 10 ^ 19 → length (entry_text c x) ≤ 22
entry_most Adjusted x h = omega (arith, signed_most x h)
entry_most AsRead x h = omega (arith, signed_most x h)
entry_most Given x h = omega (arith, signed_most x h)
entry_most Withheld x h = omega arith

flow_fits : (x : ℤ) → SFits w64 x → nat_abs x < 10 ^ 19
flow_fits (pos n) f = let b = f.sfits in omega arith
flow_fits (negsuc n) f = let b = f.sfits in omega arith

-- A line is no longer than the longest.
pub line_most : (n : ℕ) (c : Class) (x : ℤ) → n < 100 → SFits w64 x → length (field n ++ entry_text c x ++ text "\n") ≤ line_size
line_most n c x h f = omega (arith, line_size_lem n c x, field_size n, decimal_most 1 n h, entry_most c x (flow_fits x f))

word_most : (v : ℕ) → length (word_of v) ≤ 5
word_most v = go (eqb v 0) (eqb v 1) (eqb v 3)
  where
    go : (a b e : Bool) → length (pick a (text "pass") (pick b (text "fail") (pick e (text "close") (text "none")))) ≤ 5
    go true b e = omega arith
    go false true e = omega arith
    go false false true = omega arith
    go false false false = omega arith

-- How long the line of the total is.
pub total_size_lem : (n c d v : ℕ) → length (total_line n c d v) ≡ 6 + length (field n) + length (field c) + length (field d) + length (word_of v) + 1
total_size_lem n c d v =
    let a = text "total " in
    omega (
      arith,
      length-append (a ++ field n ++ field c ++ field d ++ word_of v) (text "\n"),
      length-append (a ++ field n ++ field c ++ field d) (word_of v),
      length-append (a ++ field n ++ field c) (field d),
      length-append (a ++ field n) (field c),
      length-append a (field n),
    )

-- No longer than the longest.
pub total_most : (n c d v : ℕ) → n < 10 ^ 10 → c < 10 ^ 20 → d < 10 ^ 3 → length (total_line n c d v) ≤ total_size
total_most n c d v h k l =
    omega (arith, total_size_lem n c d v, word_most v, field_size n, field_size c, field_size d, decimal_most 9 n h, decimal_most 19 c k, decimal_most 2 d l)

-- The text of a refusal.
pub refusal_size_lem : (f : ℕ) → length (refusal_text f) ≡ 8 + length (decimal f) + 1
refusal_size_lem f =
    let a = text "refused " in
    omega (arith, length-append (a ++ decimal f) (text "\n"), length-append a (decimal f))

-- Nor is the text of a refusal.
pub refusal_most : (f : ℕ) → f < 10 ^ 3 → length (refusal_text f) ≤ refusal_size
refusal_most f h = omega (arith, refusal_size_lem f, decimal_most 2 f h)

-- A text at the front of a slice lies within it.
pub put_counts : {x o o' : List ℕ} {r : ℕ} → Put x o o' r → Counts r o'
put_counts {x} {o} {o'} {r} p =
    let s = p.size in
    let h : r ≤ length o' = omega (arith, ap length p.bytes, length-append x (drop (length x) o)) in
    (h, sym (length-take-le r o' h))
