-- The map of an array, of which each call is known.
use native.Mathlib.Omega.{arith}
use mathlib.Core.Path.{◌≡◌, sym, ◌∙◌}
use mathlib.Core.List.{List, map}
use Prim.Native.Nat.{ℕ}
use denote.Param.Members.{Mut, Called}
use lib.ListN.{length, length-map}
use Rattle.std.specs.Array.{IsMapOf}
use Rattle.std.proofs.lemmas.List.{get_or-map, ext_get_or}

-- If each call gives h of its element, the array is that of h.
pub mapped : {F A B : Type 0} (g : Mut F (A × Unit {0}) B) (h : A → B) (d : A) (e : B) (f : F) (xs : List A) (ys : List B) (n : ℕ)
    → IsMapOf g f xs ys n → length xs ≡ n → ((p : F) (x : A) (y : B) (q : F) → Called g p (x, tt) y q → y ≡ h x) → ys ≡ map h xs
mapped g h d e f xs ys n m l k =
    ext_get_or e ys (map h xs) (m.long ∙ sym l ∙ sym (length-map xs h))
    (λ i lt. let c = m.at i d e (omega (arith, m.long)) in
    k c.0 _ _ c.1 c.2 ∙ sym (get_or-map h xs i d e (omega (arith, m.long, l))))
