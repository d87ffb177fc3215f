-- What a call promises that hands its answer over in slices which its caller lends.
use Rattle.std.specs.Prelude.{◌≡◌, ◌⊎◌, ℕ}

-- The call makes an answer: where the slices have room for as many as there may be it is what the call says, else the refusal 1, and the file
-- is not read. What the caller finds afterwards, in numbers and in slices, is what that answer shows.
pub record Lending {R F : Type 0} (Room : Type 0) (refused : ℕ → R) (Says : R → Type 0) (shows : R → F) (found : F) : Type 0 where
  pub made : R
  pub enough : Room → Says made
  pub short : (Room → ⊥) → made ≡ refused 1
  pub handed : found ≡ shows made

-- Where a call leaves no choice of its answer, none is left of what is found.
abbrev pub LentOnce : Type 1
LentOnce =
    (R F : Type 0) (Room : Type 0) (refused : ℕ → R) (Says : R → Type 0) (shows : R → F) → Room ⊎ (Room → ⊥)
    → ((r s : R) → Says r → Says s → r ≡ s) → (f g : F) → Lending Room refused Says shows f → Lending Room refused Says shows g → f ≡ g
