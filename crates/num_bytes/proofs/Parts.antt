-- Slices lent in parts: the part from a on, and bytes laid down one after the other.
use mathlib.Core.Path.{◌≡◌, refl, sym, ap, ◌∙◌}
use mathlib.Core.List.{List, [], ◌++◌, append_assoc, append-nil}
use Prim.Native.Nat.{ℕ, ◌+◌, ◌-◌, ◌≤◌}
use native.Mathlib.Omega.{arith}
use lib.ListN.{length, take, drop, length-append, length-drop, drop_of_length-le}
use lib.Seq.{take_all, take_at, drop_at, drop-drop}
use borrow.Rule.Slice.PartMut.{put_mid}
use Rattle.num_bytes.specs.Bytes.{over}
use Rattle.num_bytes.specs.Inner.{Put}

-- The part of a slice from a on, as a borrow has it.
abbrev pub part_from : ℕ → List ℕ → List ℕ
part_from a s = take (length s - a) (drop a s)

-- A part up to the end is the rest.
pub part_is : (a : ℕ) (s : List ℕ) → part_from a s ≡ drop a s
part_is a s = take_all (length s - a) (drop a s) (simp length-drop (omega arith))

-- How long it is.
pub length_part : (a : ℕ) (s : List ℕ) → length (part_from a s) ≡ length s - a
length_part a s = ap length (part_is a s) ∙ length-drop a s

length_over : (x o : List ℕ) → length x ≤ length o → length (over x o) ≡ length o
length_over x o h = simp (length-append, length-drop) (omega arith)

-- A slice after the part from a on was lent and holds `last` on return.
abbrev pub returned : ℕ → List ℕ → List ℕ → List ℕ
returned a o last = put_mid a (length o - a) o last

-- What was laid in the part follows what was laid before it.
lent : (a : ℕ) (x b o o₁ last : List ℕ) → length x ≡ a → o₁ ≡ over x o → last ≡ over b (part_from a o₁) → returned a o₁ last ≡ over (x ++ b) o
lent a x b o o₁ last e p q =
    let front : take a o₁ ≡ x = ap (take a) p ∙ take_at x (drop (length x) o) a e in
    let rest : drop a o₁ ≡ drop a o = ap (drop a) p ∙ drop_at x (drop (length x) o) a e ∙ ap (λ (k : ℕ). drop k o) e in
    let none : drop (length o₁ - a) (drop a o₁) ≡ [] = drop_of_length-le (drop a o₁) {i = length o₁ - a} (simp length-drop (omega arith)) in
    let here : last ≡ over b (drop a o) = q ∙ ap (over b) (part_is a o₁ ∙ rest) in
    let size : length (x ++ b) ≡ a + length b = length-append x b ∙ ap (λ (k : ℕ). k + length b) e in
    rw (front, none, append-nil, here, drop-drop, append_assoc) (ap (λ (k : ℕ). x ++ (b ++ drop k o)) (sym size))

-- The bytes x laid over the front of o, a of them, give o₁: the part from a on is free.
pub record Laid (x o o₁ : List ℕ) (a : ℕ) : Type 0 where
  pub bytes : o₁ ≡ over x o
  pub size : length x ≡ a
  pub fits : a ≤ length o

-- Bytes laid over the front.
pub laid : (x o : List ℕ) {o₁ : List ℕ} → length x ≤ length o → o₁ ≡ over x o → Laid x o o₁ (length x)
laid x o h e = record { bytes = e; size = refl; fits = h }

module _ {x o o₁ : List ℕ} {a : ℕ} (l : Laid x o o₁ a) where
  -- The slice is as long as it was.
  pub same_length : length o₁ ≡ length o
  same_length = let z = l.size in let f = l.fits in ap length l.bytes ∙ length_over x o (omega arith)

  -- The part behind the bytes may be lent.
  pub may_lend : a ≤ length o₁
  may_lend = let s = same_length in let f = l.fits in omega arith

  -- What has room in the slice has room in the part.
  pub room : (k : ℕ) → a + k ≤ length o → k ≤ length (part_from a o₁)
  room k h = let s = same_length in let p = length_part a o₁ in omega arith

  -- The next bytes, laid in the part that starts at the next free byte.
  pub lay : (b : List ℕ) {last : List ℕ} → a + length b ≤ length o → last ≡ over b (part_from a o₁) → Laid (x ++ b) o (returned a o₁ last) (a + length b)
  lay b {last} h e =
      record {
        bytes = lent a x b o o₁ last l.size l.bytes e;
        size = length-append x b ∙ ap (λ (k : ℕ). k + length b) l.size;
        fits = h;
      }

-- Bytes under their name.
pub put_as : {b d o o' : List ℕ} → b ≡ d → o' ≡ over b o → Put d o o' (length b)
put_as {b} {d} {o} e p = record { bytes = p ∙ ap (λ (l : List ℕ). over l o) e; size = ap length e }
