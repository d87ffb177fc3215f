-- A file read and written anew: the promise, by what was read.
use mathlib.Core.Path.{◌≡◌, sym, ap, subst, ◌∙◌}
use mathlib.Core.List.{List}
use Prim.Native.Nat.{ℕ, ◌≤◌}
use lib.ListN.{length}
use borrow.Author.Tests.{le-ltb}
use Rattle.num_bytes.specs.Bytes.{over}
use Rattle.plant_def.specs.Results.{Read, Done}
use Rattle.plant_def.specs.declared.Plant as Arrays
use Rattle.plant_def.specs.Limits.{longest_file}
use Rattle.plant_def.specs.Plants.{Plant, parts_fault, plant_fault}
use Rattle.plant_def.specs.Files.{Got, bad, got, plant_bytes}
use Rattle.plant_def.specs.Says.{arrayed, plant_of, read_of, write_fault, Written, WriteSays}
use Rattle.plant_def.proofs.Limited.{few_parts}
use Rattle.plant_def.proofs.Held.{plant_held}
use Rattle.plant_def.specs.Converts.{fault_of, convert_fault, Converts}
use Rattle.plant_def.specs.Needs.{Faultless}

module _ (g : Got) (o : List ℕ) where
  by_file : longest_file ≤ length o → convert_fault g o ≡ fault_of g
  by_file h = simp (le-ltb (length o) longest_file h)

-- A plant without fault is written whole.
written : (p : Plant) (o o' : List ℕ) (r : Done) → plant_fault p ≡ 0 → longest_file ≤ length o → WriteSays (arrayed p) o o' r → Converts (got p) o o' r
written p o o' r e h w =
    let same : plant_of (arrayed p) ≡ p = plant_held p (few_parts p.units (length p.streams) p.streams e) in
    let parts : parts_fault p.units (length p.streams) (plant_of (arrayed p)).streams ≡ 0 = ap (λ (q : Plant). parts_fault p.units (length p.streams) q.streams) same ∙ e in
    let none : write_fault (arrayed p) o ≡ convert_fault (got p) o = simp (le-ltb (length o) longest_file h) parts in
    subst (λ (f : ℕ). Written f (plant_bytes p) o o' r) none
    (subst (λ (b : List ℕ). Written (write_fault (arrayed p) o) b o o' r) (ap plant_bytes same) w)

-- A file without refusal.
module _ (o o' : List ℕ) (y : Read) (r : Done) (h : longest_file ≤ length o) (z : y.number ≡ 0) (w : WriteSays y.plant o o' r) where
  -- What was read is written.
  pub file_good : (g : Got) → Faultless g → y ≡ read_of g → Converts g o o' r
  file_good (bad f) d q = absurd (d (sym (ap (λ (t : Read). t.number) q) ∙ z))
  file_good (got p) d q = written p o o' r d h (subst (λ (t : Arrays.Plant). WriteSays t o o' r) (ap (λ (t : Read). t.plant) q) w)

-- A plant converted into a slice that is long enough: 0, and its bytes at the front of the slice.
pub converted : (p : Plant) (o o' : List ℕ) (r : Done) → longest_file ≤ length o → Converts (got p) o o' r
    → (r ≡ record { number = 0; written = length (plant_bytes p) }) × (o' ≡ over (plant_bytes p) o)
converted p o o' r h c = subst (λ (f : ℕ). Written f (plant_bytes p) o o' r) (by_file (got p) o h) c
