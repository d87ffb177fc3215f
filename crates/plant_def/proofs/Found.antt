-- What the reader handed over, by its number: its refusal, or the plant of the file, accepted.
use mathlib.Core.Path.{◌≡◌, refl, sym, ap, ◌∙◌, subst}
use mathlib.Core.List.{List}
use Prim.Native.Nat.{ℕ}
use lib.ListN.{length}
use Rattle.plant_def.specs.Results.{Read}
use Rattle.plant_def.specs.Plants.{Plant}
use Rattle.plant_def.specs.Files.{Got, bad, got, read_plant}
use Rattle.plant_def.specs.Within.{Accepted}
use Rattle.plant_def.specs.Says.{arrayed, plant_of, read_of}
use Rattle.plant_def.proofs.Accepted.{refused}
use Rattle.plant_def.proofs.Arrayed.{all_listed, read_accepted, read_held}

-- Another number than 0 is the refusal.
pub read_bad : (g : Got) (y : Read) → y ≡ read_of g → (y.number ≡ 0 → ⊥) → g ≡ bad y.number
read_bad (bad f) y e n = ap (λ (r : Read). bad r.number) (sym e)
read_bad (got p) y e n = absurd (n (ap (λ (r : Read). r.number) e))

read_got : (g : Got) (y : Read) → y ≡ read_of g → y.number ≡ 0 → ((f : ℕ) → g ≡ bad f → f ≡ 0 → ⊥)
    → (q : Plant) × (g ≡ got q) × (y.plant ≡ arrayed q)
read_got (bad f) y e n h = absurd (h f refl (sym (ap (λ (r : Read). r.number) e) ∙ n))
read_got (got p) y e n h = (p, refl, ap (λ (r : Read). r.plant) e)

module _ (file : List ℕ) (y : Read) (e : y ≡ read_of (read_plant file)) (n : y.number ≡ 0) where
  -- The plant of the file, which is what was handed over.
  pub found : (q : Plant) × (read_plant file ≡ got q) × (y.plant ≡ arrayed q)
  found = read_got (read_plant file) y e n (refused file)

  -- What was handed over is within its limits.
  pub plant_accepted : Accepted y.plant
  plant_accepted = rw found.2 (read_accepted file found.0 found.1)

  -- It lists the streams that the file has,
  pub plant_same : plant_of y.plant ≡ found.0
  plant_same = ap plant_of found.2 ∙ read_held file found.0 found.1

  -- and counts them.
  pub plant_count : y.plant.count ≡ length found.0.streams
  plant_count = sym (all_listed y.plant plant_accepted) ∙ ap (λ (x : Plant). length x.streams) plant_same

-- What is said of a file, `With` of what was read of it.
module _ (With : Got → Type 0) (file : List ℕ) (y : Read) (e : y ≡ read_of (read_plant file)) where
  -- A file that is refused: what is said of its number.
  pub says_bad : (y.number ≡ 0 → ⊥) → With (bad y.number) → With (read_plant file)
  says_bad n q = subst With (sym (read_bad (read_plant file) y e n)) q

  -- A file that is read: what is said of its plant.
  pub says_got : y.number ≡ 0 → With (got (plant_of y.plant)) → With (read_plant file)
  says_got n b = subst With (sym (found file y e n).1) (subst (λ (p : Plant). With (got p)) (plant_same file y e n) b)
