-- A choice between statements, values listed, bytes put down: what inner promises cite, and a few public ones.
use Rattle.std.specs.Prelude.{◌≡◌, Bool, true, false, List, [], ◌∷◌, ℕ, zero, suc, length}
use Rattle.num_bytes.specs.Bytes.{over}

-- A choice by a test between two statements.
abbrev pub PickT : Bool → Type 0 → Type 0 → Type 0
PickT true a b = a
PickT false a b = b

-- The values of a function at 0 to n - 1.
abbrev pub values : {A : Type 0} → ℕ → (ℕ → A) → List A
values zero f = []
values (suc n) f = f 0 ∷ values n (λ k. f (suc k))

-- Bytes laid over the front of a slice, and how many they are.
pub record Put (xs before after : List ℕ) (written : ℕ) : Type 0 where
  pub bytes : after ≡ over xs before
  pub size : written ≡ length xs
