-- Texts put into a slice one behind the other.
use mathlib.Core.Path.{◌≡◌, refl, sym, ap, ◌∙◌}
use mathlib.Core.List.{List, [], ◌∷◌, ◌++◌, append_assoc}
use Prim.Native.Nat.{ℕ, suc, ◌+◌, ◌≤◌, ◌<◌}
use native.Mathlib.Omega.{arith}
use lib.ListN.{length, take, drop, set, length-append, length-drop, take-append-drop}
use lib.Seq.{take_at, drop_at, drop-drop, set_split, length-take-le}
use Rattle.num_bytes.specs.Bytes.{over}
use Rattle.num_bytes.specs.Inner.{Put}
use Rattle.num_text.specs.Adding.{Added}

-- Nothing was put.
pub nothing : (at : ℕ) (o : List ℕ) → at ≤ length o → Added [] at o o at
nothing at o h = record { bytes = sym (take-append-drop at o); place = omega arith; room = h }

-- One character.
pub one : (c at : ℕ) (o : List ℕ) → at < length o → Added (c ∷ []) at o (set o at c) (at + 1)
one c at o h =
    let e : suc at ≡ at + 1 = omega arith in
    record { bytes = set_split o at c h ∙ ap (λ (k : ℕ). take at o ++ c ∷ drop k o) e ∙ ap (λ (l : List ℕ). take at o ++ c ∷ l) (sym (drop-drop 1 at o)); place = refl; room = omega arith }

-- The slice keeps its length.
pub kept_length : {x o o₁ : List ℕ} {at a : ℕ} → Added x at o o₁ a → length o₁ ≡ length o
kept_length {x} {o} {o₁} {at} {a} f =
    let r = f.room in
    let p = f.place in
    let low : at ≤ length o = omega arith in
    let d = drop at o in
    ap length f.bytes ∙ omega (arith, length-append (take at o) (over x d), length-append x (drop (length x) d), length-drop (length x) d, length-drop at o, length-take-le at o low)

-- A text behind a text.
pub behind : {x y o o₁ o₂ : List ℕ} {at a b : ℕ} → Added x at o o₁ a → Added y a o₁ o₂ b → Added (x ++ y) at o o₂ b
behind {x} {y} {o} {o₁} {o₂} {at} {a} {b} f g =
    let r = f.room in
    let p = f.place in
    let q = g.place in
    let low : at ≤ length o = omega arith in
    let front : length (take at o ++ x) ≡ a = omega (arith, length-append (take at o) x, length-take-le at o low) in
    let rest = drop (length x) (drop at o) in
    let whole : o₁ ≡ (take at o ++ x) ++ rest = f.bytes ∙ sym (append_assoc (take at o) x rest) in
    let kept : take a o₁ ≡ take at o ++ x = ap (take a) whole ∙ take_at (take at o ++ x) rest a front in
    let free : drop a o₁ ≡ rest = ap (drop a) whole ∙ drop_at (take at o ++ x) rest a front in
    let size = length-append x y in
    let long : length o₁ ≡ length o = kept_length f in
    record {
      bytes =
          g.bytes
          ∙ (λ i. kept i ++ (y ++ drop (length y) (free i)))
          ∙ append_assoc (take at o) x (y ++ drop (length y) rest)
          ∙ ap (λ (l : List ℕ). take at o ++ l)
          (sym (append_assoc x y (drop (length y) rest)) ∙ ap (λ (l : List ℕ). (x ++ y) ++ l) (drop-drop (length y) (length x) (drop at o) ∙ ap (λ (k : ℕ). drop k (drop at o)) (sym size)));
      place = omega arith;
      room = omega (arith, g.room);
    }

-- A text under another name.
pub added_as : {x y o o₁ : List ℕ} {at a : ℕ} → x ≡ y → Added x at o o₁ a → Added y at o o₁ a
added_as e f = rw e at f

-- At the front of the slice.
pub put_front : {x o o₁ : List ℕ} {a : ℕ} → Added x 0 o o₁ a → Put x o o₁ a
put_front f = record { bytes = f.bytes; size = omega (arith, f.place) }
