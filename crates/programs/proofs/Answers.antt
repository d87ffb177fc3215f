-- What the answers of a read say.
use mathlib.Core.Path.{◌≡◌, refl, sym, ◌∙◌}
use mathlib.Core.Bool.{true, false, not, ◌&&◌}
use mathlib.Core.List.{List}
use lib.IntN.{ℤ, pos, negsuc}
use lib.Signed.{lt_z}
use lib.Dec.{leb}
use borrow.Author.Tests.{le-leb, lt-leb}
use Prim.Native.Nat.{ℕ, zero, suc, ◌-◌, ◌≤◌, ◌<◌, min}
use native.Mathlib.Omega.{arith}
use lib.ListN.{length, take, drop, length-drop}
use lib.Seq.{length-take-le}
use Rattle.io.specs.Counts.{clamp_len}
use Rattle.programs.specs.Reads.{ReadOut}

-- A read into a slice with room gives no byte only where it answers 0 or less.
no_more : (z : ℤ) (n r : ℕ) → r ≡ clamp_len z n → 0 < n → r ≡ 0 → lt_z (pos 0) z ≡ false
no_more (negsuc k) n r e h o = refl
no_more (pos zero) n r e h o = refl
no_more (pos (suc k)) (suc n) r e h o = absurd (let z : min (suc k) (suc n) ≡ 0 = sym e ∙ o in omega arith)
no_more (pos (suc k)) zero r e h o = absurd (omega arith)

-- No byte more came into the slice from `at` on.
pub read_out : (z : ℤ) (at r : ℕ) (f : List ℕ) → r ≡ clamp_len z (length (take (length f - at) (drop at f))) → r ≡ 0 → ReadOut f at z
read_out z at r f e o =
    let left : List ℕ = take (length f - at) (drop at f) in
    let long : length left ≡ length f - at = length-take-le (length f - at) (drop at f) (simp length-drop (omega arith)) in
    record { ended = λ l. no_more z (length left) r e (omega arith) o }

-- The slice is full.
pub full : (z : ℤ) (at : ℕ) (f : List ℕ) → length f ≤ at → ReadOut f at z
full z at f h = record { ended = λ l. absurd (omega arith) }

-- A program with an argument takes no file,
pub many_words : (words : ℕ) (z : ℤ) → 1 < words → false ≡ (leb words 1 && not (lt_z z (pos 0)))
many_words words z h = let o : leb words 1 ≡ false = lt-leb _ _ h in rw o refl

-- one without takes it where the last read did not fail.
pub one_word : (words : ℕ) (z : ℤ) → words ≤ 1 → not (lt_z z (pos 0)) ≡ (leb words 1 && not (lt_z z (pos 0)))
one_word words z h = let o : leb words 1 ≡ true = le-leb _ _ h in rw o refl
