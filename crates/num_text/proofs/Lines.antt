-- Lines put one behind the other, from the start of a slice on.
use mathlib.Core.Path.{◌≡◌, sym, ap, ◌∙◌}
use mathlib.Core.List.{List, [], ◌∷◌, ◌++◌, append-nil, append_assoc}
use Prim.Native.Nat.{ℕ, zero, suc, ◌+◌, ◌*◌, ◌<◌, ◌≤◌}
use native.Mathlib.Omega.{arith}
use native.Mathlib.Nat.{mul-le-mul_left}
use lib.ListN.{length, get_or, take, length-append}
use Rattle.num_text.specs.Numerals.{text, decimal, field, pair_line}
use Rattle.num_text.specs.Adding.{Added}
use Rattle.num_text.proofs.Behind.{nothing, behind, kept_length, added_as}

-- How long a line of two numbers is.
pub pair_size : (n c : ℕ) → length (pair_line n c) ≡ length (field n) + length (decimal c) + 1
pair_size n c = length-append (field n ++ decimal c) (text "\n") ∙ ap (λ (m : ℕ). m + 1) (length-append (field n) (decimal c))

-- f i: the text of the first i lines. Of k lines, none longer than `most`, i are put into o, which is o₁ now; the next place is `at`.
pub record Lines (f : ℕ → List ℕ) (most k : ℕ) (o o₁ : List ℕ) (at i : ℕ) : Type 0 where
  pub within : i ≤ k
  pub wide : most * k ≤ length o
  pub so_far : Added (f i) 0 o o₁ at
  pub bound : at ≤ most * i

-- No line yet.
pub no_lines : (f : ℕ → List ℕ) (most k : ℕ) (o : List ℕ) → f 0 ≡ [] → most * k ≤ length o → Lines f most k o o 0 0
no_lines f most k o e h = record { within = omega arith; wide = h; so_far = added_as (sym e) (nothing 0 o (omega arith)); bound = omega arith }

module _ {f : ℕ → List ℕ} {most k : ℕ} {o o₁ : List ℕ} {at i : ℕ} (w : Lines f most k o o₁ at i) where
  -- The slice keeps its length.
  pub lines_long : length o₁ ≡ length o
  lines_long = kept_length w.so_far

  -- No more room is taken than so many lines may take.
  pub lines_most : at ≤ most * k
  lines_most = let b = w.bound in omega (arith, mul-le-mul_left most w.within)

  -- Behind the last line.
  pub all_lines : k ≤ i → Added (f k) 0 o o₁ at
  all_lines h = let a = w.within in let e : i ≡ k = omega arith in added_as (ap f e) w.so_far

  module _ (b : List ℕ) (h : i < k) (small : length b ≤ most) where
    -- There is room for one more line.
    pub line_room : at + length b ≤ length o₁
    line_room = let a = w.bound in let c = w.wide in omega (arith, mul-le-mul_left most h, lines_long)

    -- One line more.
    pub one_line : {o₂ : List ℕ} {a : ℕ} → f (i + 1) ≡ f i ++ b → Added b at o₁ o₂ a → Lines f most k o o₂ a (i + 1)
    one_line e p = let a = w.bound in record { within = omega arith; wide = w.wide; so_far = added_as (sym e) (behind w.so_far p); bound = omega (arith, p.place) }

-- Lines that are numbered one after the other: one more.
module _ {A : Type 0} (line : ℕ → A → List ℕ) (from : ℕ → List A → List ℕ) (none : (n : ℕ) → from n [] ≡ [])
    (more : (n : ℕ) (x : A) (xs : List A) → from n (x ∷ xs) ≡ line n x ++ from (suc n) xs) where
  next : (n : ℕ) (xs : List A) (i : ℕ) (d : A) → i < length xs → from n (take (suc i) xs) ≡ from n (take i xs) ++ line (i + n) (get_or xs i d)
  next n [] i d h = absurd (omega arith)
  next n (x ∷ xs) zero d h =
      let z : n ≡ 0 + n = omega arith in
      more n x [] ∙ ap (λ (l : List ℕ). line n x ++ l) (none (suc n)) ∙ append-nil (line n x) ∙ ap (λ (k : ℕ). line k x) z
      ∙ ap (λ (l : List ℕ). l ++ line (0 + n) x) (sym (none n))
  next n (x ∷ xs) (suc i) d h =
      let z : i + suc n ≡ suc i + n = omega arith in
      more n x (take (suc i) xs)
      ∙ ap (λ (l : List ℕ). line n x ++ l) (next (suc n) xs i d (omega arith) ∙ ap (λ (k : ℕ). from (suc n) (take i xs) ++ line k (get_or xs i d)) z)
      ∙ sym (append_assoc (line n x) (from (suc n) (take i xs)) (line (suc i + n) (get_or xs i d)))
      ∙ ap (λ (l : List ℕ). l ++ line (suc i + n) (get_or xs i d)) (sym (more n x (take i xs)))

  -- The lines of the first i + 1 elements are those of the first i and one more.
  pub lines_more : (n : ℕ) (xs : List A) (i : ℕ) (d : A) → i < length xs → from n (take (i + 1) xs) ≡ from n (take i xs) ++ line (i + n) (get_or xs i d)
  lines_more n xs i d h = let e : i + 1 ≡ suc i = omega arith in ap (λ (j : ℕ). from n (take j xs)) e ∙ next n xs i d h
