-- How many items of a list pass a test, item by item.
use Rattle.std.proofs.Common.{◌≡◌, ℕ, zero, suc, ◌+◌, Bool, true, false, cond, List, ◌∷◌, length, get_or, refl, ◌∙◌, arith}
use Rattle.std.specs.List.{count_by}
use Rattle.std.proofs.lemmas.List.Recursion.{is_count_by}
use Rattle.num_bytes.specs.Choice.{pick}
use Rattle.num_bytes.specs.Sums.{count_to}

-- A count taken from the front.
front : (n : ℕ) (f : ℕ → Bool) → count_to (suc n) f ≡ pick (f 0) 1 0 + count_to n (λ k. f (suc k))
front zero f = refl
front (suc n) f = omega (arith, front n f)

chosen : (b : Bool) (n : ℕ) → pick b 1 0 + n ≡ cond b (1 + n) n
chosen true n = refl
chosen false n = omega arith

-- The places that pass are as many as the items that do.
pub places_count : (p : Bool → Bool) (xs : List Bool) → count_to (length xs) (λ u. p (get_or xs u false)) ≡ count_by p xs
places_count p xs =
    is_count_by (λ ys. count_to (length ys) (λ u. p (get_or ys u false))) p refl
    (λ y ys. front (length ys) (λ u. p (get_or (y ∷ ys) u false)) ∙ chosen (p y) _) xs
