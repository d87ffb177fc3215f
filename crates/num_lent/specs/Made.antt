-- The answer of a call over lent slices, before it is handed over.
use Rattle.std.specs.Prelude.{◌≡◌, ℕ}

-- As the call says where there is room, else the refusal 1.
pub record Made {R : Type 0} (Room : Type 0) (refused : ℕ → R) (Says : R → Type 0) (r : R) : Type 0 where
  pub enough : Room → Says r
  pub short : (Room → ⊥) → r ≡ refused 1
