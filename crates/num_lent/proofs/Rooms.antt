-- Slices that are to hold as many numbers as there may be, and what a call over them says.
use mathlib.Core.Path.{◌≡◌, sym, ap, ◌∙◌}
use mathlib.Core.Logic.{◌⊎◌, inl, inr, ⊎_elim}
use Prim.Native.Nat.{ℕ, ◌≤◌, ◌<◌}
use native.Mathlib.Omega.{arith}
use native.Mathlib.Decide.{dec_le}
use Rattle.plant_def.specs.Limits.{max_streams}
use Rattle.num_lent.specs.Made.{Made}
use Rattle.num_lent.specs.Lending.{Lending, LentOnce}

-- A slice has room, or it has none.
pub by_length : (k m : ℕ) → (k ≤ m) ⊎ (k ≤ m → ⊥)
by_length k m = elim (dec_le k m) [
  | yes h ↦ inl h
  | no h ↦ inr h
]

-- Both have room, or one has none.
pub by_lengths : (k m n : ℕ) → ((k ≤ m) × (k ≤ n)) ⊎ ((k ≤ m) × (k ≤ n) → ⊥)
by_lengths k m n = elim (dec_le k m) [
  | yes h ↦ elim (dec_le k n) [
    | yes l ↦ inl (h, l)
    | no l ↦ inr (λ b. l b.1)
  ]
  | no h ↦ inr (λ b. h b.0)
]

-- What a call over slices makes of its answer, by their room.
module _ {R : Type 0} (Room : Type 0) (refused : ℕ → R) (Says : R → Type 0) (r : R) where
  -- None: the refusal.
  pub made_short : (Room → ⊥) → r ≡ refused 1 → Made Room refused Says r
  made_short n e = record { enough = λ h. absurd (n h); short = λ m. e }

  -- Enough: as the call.
  pub made_enough : Room → Says r → Made Room refused Says r
  made_enough h s = record { enough = λ l. s; short = λ n. absurd (n h) }

  -- Handed over as it shows.
  pub lend : {F : Type 0} (shows : R → F) (found : F) → Made Room refused Says r → found ≡ shows r → Lending Room refused Says shows found
  lend shows found m e = record { made = r; enough = m.enough; short = m.short; handed = e }

-- Of two slices either may be too short.
module _ {R : Type 0} (refused : ℕ → R) (Says : R → Type 0) (m n : ℕ) (r : R) where
  -- The first is.
  pub first_short : m < max_streams → r ≡ refused 1 → Made ((max_streams ≤ m) × (max_streams ≤ n)) refused Says r
  first_short h e = made_short ((max_streams ≤ m) × (max_streams ≤ n)) refused Says r (λ b. let l = b.0 in omega arith) e

  -- The second is.
  pub second_short : n < max_streams → r ≡ refused 1 → Made ((max_streams ≤ m) × (max_streams ≤ n)) refused Says r
  second_short h e = made_short ((max_streams ≤ m) × (max_streams ≤ n)) refused Says r (λ b. let l = b.1 in omega arith) e

-- No more are handed over than there may be, nor than the slice holds,
pub room_one : {R : Type 0} (refused : ℕ → R) (Says : R → Type 0) (count : R → ℕ) → count (refused 1) ≡ 0 → ((r : R) → Says r → count r ≤ max_streams)
    → (m : ℕ) (r : R) → Made (max_streams ≤ m) refused Says r → (count r ≤ max_streams) × (count r ≤ m)
room_one refused Says count none few m r s = ⊎_elim
    (λ h. let f = few r (s.enough h) in (f, omega (arith, f, h)))
    (λ h. let e : count r ≡ 0 = ap count (s.short h) ∙ none in (omega arith, omega arith))
    (by_length max_streams m)

-- nor than either of two.
pub room_both : {R : Type 0} (refused : ℕ → R) (Says : R → Type 0) (count : R → ℕ) → count (refused 1) ≡ 0 → ((r : R) → Says r → count r ≤ max_streams)
    → (m n : ℕ) (r : R) → Made ((max_streams ≤ m) × (max_streams ≤ n)) refused Says r → (count r ≤ max_streams) × (count r ≤ m) × (count r ≤ n)
room_both refused Says count none few m n r s = ⊎_elim
    (λ h. let l = h.0 in let k = h.1 in let f = few r (s.enough h) in (f, omega arith, omega arith))
    (λ h. let e : count r ≡ 0 = ap count (s.short h) ∙ none in (omega arith, omega arith, omega arith))
    (by_lengths max_streams m n)

-- What is found follows from the answer, which leaves no choice.
pub lent_once : LentOnce
lent_once R F Room refused Says shows room only f g x y =
    x.handed ∙ ap shows (⊎_elim (λ h. only x.made y.made (x.enough h) (y.enough h)) (λ h. x.short h ∙ sym (y.short h)) room) ∙ sym y.handed
