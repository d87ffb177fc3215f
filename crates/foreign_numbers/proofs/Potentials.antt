-- Potentials less that of the outside, in 64 bits, one after the other.
use mathlib.Core.Path.{◌≡◌, sym, ◌∙◌, ap₂, subst}
use mathlib.Core.List.{List}
use lib.IntN.{ℤ, pos, ◌-ℤ◌}
use Prim.Native.Nat.{ℕ, suc, ◌+◌, ◌≤◌}
use native.Mathlib.Numerals.{add-one}
use native.Mathlib.Omega.{arith}
use lib.ListN.{replicate}
use mir.Syntax.{w64}
use mir.Val.{SFits, to_z, of_z}
use mir.ValLaws.{to_z-of_z}
use mir.Facts.{to_z_pos}
use Rattle.num_bytes.proofs.Filled.{blank_at}
use Rattle.plant_def.specs.declared.Plant as Arrays
use Rattle.plant_def.specs.Limits.{places}
use Rattle.plant_def.specs.Within.{Accepted}
use Rattle.plant_def.specs.Says.{plant_of}
use Rattle.plant_def.proofs.Arrayed.{within_of}
use Rattle.num_bytes.proofs.Lists.{Written}
use Rattle.solve_def.specs.Sizes.{potential_shift}
use Rattle.solve_def.specs.declared.Solved.{Solved}
use Rattle.solve_def.specs.Promise.{flow_of, Solution}
use Rattle.sheet_cost.proofs.Costing.{size_fits, minus_size}
use Rattle.foreign_def.specs.Numbers.{NumbersOf}
use Rattle.foreign_def.specs.Test.{potential_from, NumberedBy}
use Rattle.foreign_def.proofs.Serving.{numbers_of, solution_numbered}

module _ (a b : ℕ) (h : a ≤ potential_shift) (k : b ≤ potential_shift) where
  apart : SFits w64 (pos a -ℤ pos b)
  apart = size_fits (pos a -ℤ pos b) (omega (arith, minus_size (pos a) (pos b)))

  coded : to_z w64 a -ℤ to_z w64 b ≡ pos a -ℤ pos b
  coded = ap₂ ◌-ℤ◌ (to_z_pos w64 {n = a} (omega arith)) (to_z_pos w64 {n = b} (omega arith))

  -- The difference fits.
  pub apart_fits : SFits w64 (to_z w64 a -ℤ to_z w64 b)
  apart_fits = rw coded apart

  -- It is the difference, read back from its bits.
  pub apart_is : to_z w64 (of_z w64 (to_z w64 a -ℤ to_z w64 b)) ≡ pos a -ℤ pos b
  apart_is = rw coded (to_z-of_z w64 (pos a -ℤ pos b) apart)

-- All of them.
pub numbered_all : (n m : ℕ) (ps : List ℕ) (numbers : List ℤ) → m ≡ suc n → Written (pos 0) places (λ u z. potential_from ps u) (replicate places (pos 0)) numbers m → NumberedBy n ps numbers
numbered_all n m ps numbers e w = record {
  long = w.long;
  each = λ u l. w.done u (omega arith);
  past = λ u l. w.rest u (omega arith) ∙ blank_at (pos 0) places u;
}

-- The plant's numbers.
pub found_numbers : (p : Arrays.Plant) (a : Accepted p) (s : Solved) → Solution p s → (numbers : List ℤ) → NumberedBy p.units s.potentials numbers
    → NumbersOf (plant_of p) (record { number = 0; count = p.units + 1; numbers = numbers })
found_numbers p a s r numbers b =
    subst (λ (c : ℕ). NumbersOf (plant_of p) (record { number = 0; count = c; numbers = numbers })) (sym (add-one p.units))
    (numbers_of (plant_of p) (within_of p a) _ (flow_of p s) r.cheapest.balance (solution_numbered p a s r numbers b))
