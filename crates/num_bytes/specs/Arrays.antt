-- A list in an array that is as long as its limit.
use Rattle.std.specs.Prelude.{List, [], ◌∷◌, ℕ, zero, suc}

-- The first n of a list, with d where it is shorter: always n long.
abbrev pub filled : {A : Type 0} → A → ℕ → List A → List A
filled d zero xs = []
filled d (suc n) [] = d ∷ filled d n []
filled d (suc n) (x ∷ xs) = x ∷ filled d n xs
