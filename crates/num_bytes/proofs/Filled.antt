-- A list in an array: always as long as the limit, one element more, and the list again.
use mathlib.Core.Path.{◌≡◌, refl, ap}
use mathlib.Core.List.{List, [], ◌∷◌, ◌++◌}
use Prim.Native.Nat.{ℕ, zero, suc, ◌≤◌, ◌<◌}
use native.Mathlib.Omega.{arith}
use lib.ListN.{length, get_or, take, set, replicate}
use Rattle.num_bytes.specs.Arrays.{filled}

module _ {A : Type 0} (d : A) where
  -- As long as the array.
  pub length_filled : (n : ℕ) (xs : List A) → length (filled d n xs) ≡ n
  length_filled zero xs = refl
  length_filled (suc n) [] = ap suc (length_filled n [])
  length_filled (suc n) (x ∷ xs) = ap suc (length_filled n xs)

  -- An array of d holds no list.
  pub filled_none : (n : ℕ) → replicate n d ≡ filled d n []
  filled_none zero = refl
  filled_none (suc n) = ap (λ (l : List A). d ∷ l) (filled_none n)

  -- An array of d has d at each place.
  pub blank_at : (n j : ℕ) → get_or (replicate n d) j d ≡ d
  blank_at zero j = refl
  blank_at (suc n) zero = refl
  blank_at (suc n) (suc j) = blank_at n j

  -- One element more.
  pub filled_more : (n : ℕ) (xs : List A) (y : A) → length xs < n → set (filled d n xs) (length xs) y ≡ filled d n (xs ++ (y ∷ []))
  filled_more zero xs y h = absurd (omega arith)
  filled_more (suc n) [] y h = refl
  filled_more (suc n) (x ∷ xs) y h = ap (λ (l : List A). x ∷ l) (filled_more n xs y (omega arith))

  -- The list stands at the front.
  pub take_filled : (n : ℕ) (xs : List A) → length xs ≤ n → take (length xs) (filled d n xs) ≡ xs
  take_filled n [] h = refl
  take_filled zero (x ∷ xs) h = absurd (omega arith)
  take_filled (suc n) (x ∷ xs) h = ap (λ (l : List A). x ∷ l) (take_filled n xs (omega arith))

  -- Its elements.
  pub filled_at : (n : ℕ) (xs : List A) (j : ℕ) → length xs ≤ n → get_or (filled d n xs) j d ≡ get_or xs j d
  filled_at zero [] j h = refl
  filled_at zero (x ∷ xs) j h = absurd (omega arith)
  filled_at (suc n) [] zero h = refl
  filled_at (suc n) [] (suc j) h = filled_at n [] j (omega arith)
  filled_at (suc n) (x ∷ xs) zero h = refl
  filled_at (suc n) (x ∷ xs) (suc j) h = filled_at n xs j (omega arith)

-- What is read past the end does not matter before it.
pub get_d_any : {A : Type 0} (xs : List A) (i : ℕ) (a b : A) → i < length xs → get_or xs i a ≡ get_or xs i b
get_d_any [] i a b l = absurd (omega arith)
get_d_any (x ∷ xs) zero a b l = refl
get_d_any (x ∷ xs) (suc i) a b l = get_d_any xs i a b (omega arith)
