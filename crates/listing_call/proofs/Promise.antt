-- The promise of the call that lists a plant, by what was found; and that it leaves no choice.
use mathlib.Core.Path.{◌≡◌, refl, sym, ap, ◌∙◌, subst}
use mathlib.Core.Bool.{Bool, true, false}
use mathlib.Core.Logic.{inl, inr}
use mathlib.Core.List.{List}
use Prim.Native.Nat.{ℕ, ◌≤◌, ◌<◌}
use borrow.Author.Tests.{lt-ltb, le-ltb}
use lib.Dec.{ltb}
use lib.ListN.{length}
use Rattle.num_bytes.specs.Bytes.{over}
use Rattle.num_bytes.specs.Inner.{Put, PickT}
use Rattle.plant_def.specs.Results.{Read}
use Rattle.plant_def.specs.Plants.{Plant}
use Rattle.plant_def.specs.Files.{Got, bad, got, read_plant}
use Rattle.plant_def.specs.Says.{plant_of, read_of}
use Rattle.plant_def.specs.Within.{Within}
use Rattle.plant_def.proofs.Limited.{within}
use Rattle.plant_def.proofs.Accepted.{accepted}
use Rattle.plant_def.proofs.Found.{read_bad, found, plant_count}
use Rattle.flow_def.specs.Overfull.{Overfull}
use Rattle.sheet_def.specs.declared.Balance.{Balance}
use Rattle.sheet_def.specs.Balances.{BalanceSays}
use Rattle.sheet_def.proofs.Promise.{plant_balance, plant_overfull}
use Rattle.sheet_def.proofs.Unique.{one_balance, never_both}
use Rattle.listing_lines.specs.Listing.{listing_of, refusal_text}
use Rattle.listing_lines.specs.Room.{least_text, OneText}
use Rattle.listing_call.specs.Says.{ListWith, ListSays}

module _ (file o : List ℕ) where
  -- By the length of the slice.
  by_length : (b : Bool) → ltb (length o) least_text ≡ b → (o' : List ℕ) (r : ℕ) → PickT b ((r ≡ 0) × (o' ≡ o)) (ListWith (read_plant file) o o' r)
      → ListSays file o o' r
  by_length b t o' r w = subst (λ (b : Bool). PickT b ((r ≡ 0) × (o' ≡ o)) (ListWith (read_plant file) o o' r)) (sym t) w

  -- A slice that is too short: nothing.
  pub too_short : length o < least_text → ListSays file o o 0
  too_short h = by_length true (lt-ltb (length o) least_text h) o 0 (refl, refl)

  module _ (h : least_text ≤ length o) (o' : List ℕ) (r : ℕ) where
    by_file : (g : Got) → read_plant file ≡ g → ListWith g o o' r → ListSays file o o' r
    by_file g e w = by_length false (le-ltb (length o) least_text h) o' r (subst (λ (g : Got). ListWith g o o' r) (sym e) w)

    -- A file that is refused: its number.
    pub file_refused : (y : Read) → y ≡ read_of (read_plant file) → (y.number ≡ 0 → ⊥) → Put (refusal_text y.number) o o' r → ListSays file o o' r
    file_refused y e n p = by_file (bad y.number) (read_bad (read_plant file) y e n) p

    -- A plant with a balance: its listing.
    pub plant_listed : (y : Read) (b : Balance) → y ≡ read_of (read_plant file) → y.number ≡ 0 → BalanceSays (plant_of y.plant) b
        → Put (listing_of y.plant.count 1 b) o o' r → ListSays file o o' r
    plant_listed y b e n t p =
        let s = plant_balance file y e n b t in
        by_file (got (found file y e n).0) (found file y e n).1 (inl (s.0, s.1, subst (λ (l : List ℕ). Put l o o' r) (λ i. listing_of (plant_count file y e n i) 1 (s.2 i)) p))

    -- A plant without one: 19.
    pub plant_overfilled : (y : Read) (ms : List Bool) → y ≡ read_of (read_plant file) → y.number ≡ 0 → Overfull (plant_of y.plant) ms
        → Put (refusal_text 19) o o' r → ListSays file o o' r
    plant_overfilled y ms e n t p = by_file (got (found file y e n).0) (found file y e n).1 (inr (ms, plant_overfull file y e n ms t, p))

-- Text and length follow from the file and the slice.
module _ (o o₁ o₂ : List ℕ) (r₁ r₂ : ℕ) where
  put_one : {x y : List ℕ} → x ≡ y → Put x o o₁ r₁ → Put y o o₂ r₂ → (r₁ ≡ r₂) × (o₁ ≡ o₂)
  put_one e p q = (p.size ∙ ap length e ∙ sym q.size, p.bytes ∙ ap (λ (l : List ℕ). over l o) e ∙ sym q.bytes)

  with_one : (g : Got) → ((p : Plant) → g ≡ got p → Within p) → ListWith g o o₁ r₁ → ListWith g o o₂ r₂ → (r₁ ≡ r₂) × (o₁ ≡ o₂)
  with_one (bad f) w a b = put_one refl a b
  with_one (got p) w (inl a) (inr b) = never_both p (w p refl) a.0 a.1 b.0 b.1
  with_one (got p) w (inr a) (inl b) = never_both p (w p refl) b.0 b.1 a.0 a.1
  with_one (got p) w (inr a) (inr b) = put_one refl a.2 b.2
  with_one (got p) w (inl a) (inl b) = put_one (ap (listing_of (length p.streams) 1) (one_balance p (w p refl) a.0 b.0 a.1 b.1)) a.2 b.2

text_same : (b : Bool) (file o o₁ o₂ : List ℕ) (r₁ r₂ : ℕ) → PickT b ((r₁ ≡ 0) × (o₁ ≡ o)) (ListWith (read_plant file) o o₁ r₁)
    → PickT b ((r₂ ≡ 0) × (o₂ ≡ o)) (ListWith (read_plant file) o o₂ r₂) → (r₁ ≡ r₂) × (o₁ ≡ o₂)
text_same true file o o₁ o₂ r₁ r₂ a b = (a.0 ∙ sym b.0, a.1 ∙ sym b.1)
text_same false file o o₁ o₂ r₁ r₂ a b = with_one o o₁ o₂ r₁ r₂ (read_plant file) (λ p e. within p (accepted file p e).0) a b

-- Two answers to one file are the same text.
pub one_text : OneText ListSays
one_text file o o₁ o₂ r₁ r₂ a b = text_same (ltb (length o) least_text) file o o₁ o₂ r₁ r₂ a b
