-- Elements handed over one after the other at the front of a slice.
use mathlib.Core.Path.{◌≡◌, refl, ap, ◌∙◌}
use mathlib.Core.List.{List, [], ◌∷◌, map}
use Prim.Native.Nat.{ℕ, zero, suc, ◌+◌, ◌≤◌, ◌<◌}
use native.Mathlib.Omega.{arith}
use native.Mathlib.Numerals.{add-one}
use lib.ListN.{length, get_or, set, take}
use Rattle.num_bytes.specs.Bytes.{over}

-- The values of a function at the first k of a list, laid over the front of a slice o, which is n now; c of them are to be laid.
pub record Handing {A B : Type 0} (f : A → B) (xs : List A) (c : ℕ) (o n : List B) (k : ℕ) : Type 0 where
  pub long : c ≤ length xs
  pub wide : c ≤ length o
  pub within : k ≤ c
  pub so_far : n ≡ over (map f (take k xs)) o

module _ {A B : Type 0} (f : A → B) where
  over_more : (xs : List A) (o : List B) (k : ℕ) (d : A) → k < length xs → k < length o
      → set (over (map f (take k xs)) o) k (f (get_or xs k d)) ≡ over (map f (take (suc k) xs)) o
  over_more [] o k d h l = absurd (omega arith)
  over_more (x ∷ xs) [] k d h l = absurd (omega arith)
  over_more (x ∷ xs) (y ∷ o) zero d h l = refl
  over_more (x ∷ xs) (y ∷ o) (suc k) d h l = ap (λ (t : List B). f x ∷ t) (over_more xs o k d (omega arith) (omega arith))

  length_laid : (xs : List A) (o : List B) (k : ℕ) → k ≤ length o → length (over (map f (take k xs)) o) ≡ length o
  length_laid [] o zero h = refl
  length_laid [] o (suc k) h = refl
  length_laid (x ∷ xs) o zero h = refl
  length_laid (x ∷ xs) [] (suc k) h = absurd (omega arith)
  length_laid (x ∷ xs) (y ∷ o) (suc k) h = ap suc (length_laid xs o k (omega arith))

  -- Before the first element.
  pub none_handed : (xs : List A) (c : ℕ) (o : List B) → c ≤ length xs → c ≤ length o → Handing f xs c o o 0
  none_handed xs c o h l = record { long = h; wide = l; within = omega arith; so_far = refl }

  module _ {xs : List A} {c : ℕ} {o n : List B} {k : ℕ} (h : Handing f xs c o n k) where
    -- The slice is as long as it was.
    pub slice_long : length n ≡ length o
    slice_long = let a = h.wide in let b = h.within in ap length h.so_far ∙ length_laid xs o k (omega arith)

    -- There is room for one more element.
    pub room_there : k < c → k < length n
    room_there l = let a = h.wide in let b = slice_long in omega arith

    -- One more element.
    pub one_handed : (d : A) (v : B) → k < c → v ≡ f (get_or xs k d) → Handing f xs c o (set n k v) (k + 1)
    one_handed d v l e =
        let a = h.long in
        let b = h.wide in
        record {
          long = a;
          wide = b;
          within = omega arith;
          so_far = rw (add-one k) (ap (λ (t : List B). set t k v) h.so_far ∙ ap (set (over (map f (take k xs)) o) k) e ∙ over_more xs o k d (omega arith) (omega arith));
        }

    -- Behind the last element.
    pub all_handed : c ≤ k → n ≡ over (map f (take c xs)) o
    all_handed l = let a = h.within in let e : k ≡ c = omega arith in h.so_far ∙ ap (λ (j : ℕ). over (map f (take j xs)) o) e

-- Elements as they are.
abbrev pub itself : {A : Type 0} → A → A
itself x = x

map_itself : {A : Type 0} (xs : List A) → map itself xs ≡ xs
map_itself [] = refl
map_itself {A = A} (x ∷ xs) = ap (λ (l : List A). x ∷ l) (map_itself xs)

-- Elements as they are, behind the last one.
pub all_as_they_are : {A : Type 0} {xs : List A} {c : ℕ} {o n : List A} {k : ℕ} → Handing itself xs c o n k → c ≤ k → n ≡ over (take c xs) o
all_as_they_are {A = A} {xs} {c} {o} h l = all_handed itself h l ∙ ap (λ (ys : List A). over ys o) (map_itself (take c xs))
