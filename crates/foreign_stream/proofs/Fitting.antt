-- The tests of one stream, one after the other; and its bounds in 64 bits.
use mathlib.Core.Path.{◌≡◌, ap, ap₂}
use mathlib.Core.Bool.{Bool, true, false, not, ◌&&◌, ◌||◌}
use lib.IntN.{ℤ, pos, nat_abs, ◌-ℤ◌, ◌*ℤ◌}
use lib.Signed.{le_z}
use Prim.Native.Nat.{ℕ, ◌+◌, ◌*◌, ◌^◌, ◌≤◌}
use native.Mathlib.Nat.{mul-le-mul}
use native.Mathlib.Omega.{arith}
use mir.Syntax.{w64}
use mir.Val.{SFits, to_z, of_z}
use mir.ValLaws.{to_z-of_z}
use mir.Facts.{to_z_pos}
use Rattle.plant_def.specs.declared.Stream.{Stream}
use Rattle.plant_def.specs.Limits.{max_weight}
use Rattle.flow_def.specs.Flows.{in_range}
use Rattle.flow_def.specs.Certificate.{rises, falls, least_climb, most_climb}
use Rattle.num_bytes.proofs.Integers.{size_val, product}
use Rattle.sheet_cost.proofs.Costing.{size_fits}
use Rattle.foreign_def.specs.Test.{flow_fits}

-- The three tests, one after the other.
module _ (s : Stream) (x c : ℤ) where
  abbrev low_kept : Bool
  low_kept = not (falls s x) || le_z (least_climb s x) c

  abbrev high_kept : Bool
  high_kept = not (rises s x) || le_z c (most_climb s x)

  -- Out of range: it does not fit.
  pub out_of_range : in_range 1 s x ≡ false → false ≡ flow_fits s x c
  out_of_range e = rw e

  -- Below the bottom: it does not fit.
  pub under_bottom : in_range 1 s x ≡ true → (not (falls s x) || le_z (least_climb s x) c) ≡ false → false ≡ flow_fits s x c
  under_bottom e f = go (in_range 1 s x) low_kept high_kept e f
    where
      go : (a b d : Bool) → a ≡ true → b ≡ false → false ≡ (a && (b && d))
      go a b d p q = rw (p, q)

  -- In range and from the bottom up: the top decides.
  pub by_top : in_range 1 s x ≡ true → (not (falls s x) || le_z (least_climb s x) c) ≡ true → (not (rises s x) || le_z c (most_climb s x)) ≡ flow_fits s x c
  by_top e f = go (in_range 1 s x) low_kept high_kept e f
    where
      go : (a b d : Bool) → a ≡ true → b ≡ true → d ≡ (a && (b && d))
      go a b d p q = rw (p, q)

times_size : (w : ℕ) (y : ℤ) → nat_abs (pos w *ℤ y) ≡ w * nat_abs y
times_size w y = omega (arith, size_val (pos w *ℤ y), product w y, ap (λ k. w * k) (size_val y))

-- A bound of a stream of weight w, d being flow minus reading: w times what stands beside 2 d, as the code works it out.
pub record Bounded (beside : ℤ → ℤ) (w : ℕ) (d : ℤ) : Type 0 where
  pub twice : SFits w64 (pos 2 *ℤ to_z w64 (of_z w64 d))
  pub next : SFits w64 (beside (to_z w64 (of_z w64 (pos 2 *ℤ to_z w64 (of_z w64 d)))))
  pub fits : SFits w64 (to_z w64 w *ℤ to_z w64 (of_z w64 (beside (to_z w64 (of_z w64 (pos 2 *ℤ to_z w64 (of_z w64 d)))))))
  pub is : to_z w64 (of_z w64 (to_z w64 w *ℤ to_z w64 (of_z w64 (beside (to_z w64 (of_z w64 (pos 2 *ℤ to_z w64 (of_z w64 d)))))))) ≡ pos w *ℤ beside (pos 2 *ℤ d)

module _ (beside : ℤ → ℤ) (close : (y : ℤ) → nat_abs (beside y) ≤ nat_abs y + 1) (w : ℕ) (d : ℤ) (f : SFits w64 d) (light : w ≤ max_weight) (near : nat_abs d ≤ 2 ^ 47) where
  small : nat_abs (beside (pos 2 *ℤ d)) ≤ 2 * 2 ^ 47 + 1
  small = omega (arith, times_size 2 d, close (pos 2 *ℤ d))

  two : SFits w64 (pos 2 *ℤ d)
  two = size_fits (pos 2 *ℤ d) (omega (arith, times_size 2 d))

  two_is : to_z w64 (of_z w64 (pos 2 *ℤ to_z w64 (of_z w64 d))) ≡ pos 2 *ℤ d
  two_is = rw (to_z-of_z w64 d f) (to_z-of_z w64 (pos 2 *ℤ d) two)

  beside_fits : SFits w64 (beside (pos 2 *ℤ d))
  beside_fits = size_fits (beside (pos 2 *ℤ d)) (omega (arith, small))

  whole : SFits w64 (pos w *ℤ beside (pos 2 *ℤ d))
  whole = size_fits (pos w *ℤ beside (pos 2 *ℤ d)) (omega (arith, times_size w (beside (pos 2 *ℤ d)), mul-le-mul light small))

  whole_is : to_z w64 w *ℤ to_z w64 (of_z w64 (beside (to_z w64 (of_z w64 (pos 2 *ℤ to_z w64 (of_z w64 d)))))) ≡ pos w *ℤ beside (pos 2 *ℤ d)
  whole_is = rw two_is (ap₂ ◌*ℤ◌ (to_z_pos w64 (omega arith)) (to_z-of_z w64 (beside (pos 2 *ℤ d)) beside_fits))

  -- It fits 64 bits where no more than 1 is added or taken away.
  pub bounded : Bounded beside w d
  bounded = record {
    twice = rw (to_z-of_z w64 d f) two;
    next = rw two_is beside_fits;
    fits = rw whole_is whole;
    is = rw whole_is (to_z-of_z w64 (pos w *ℤ beside (pos 2 *ℤ d)) whole);
  }

-- A difference of two numbers that came through 64 bits.
module _ (x y : ℤ) (fx : SFits w64 x) (fy : SFits w64 y) (fd : SFits w64 (x -ℤ y)) where
  -- The difference fits 64 bits.
  pub coded_fits : SFits w64 (to_z w64 (of_z w64 x) -ℤ to_z w64 (of_z w64 y))
  coded_fits = rw (to_z-of_z w64 x fx, to_z-of_z w64 y fy) fd

  -- A difference, read back from its bits.
  pub coded_is : to_z w64 (of_z w64 (to_z w64 (of_z w64 x) -ℤ to_z w64 (of_z w64 y))) ≡ x -ℤ y
  coded_is = rw (to_z-of_z w64 x fx, to_z-of_z w64 y fy) (to_z-of_z w64 (x -ℤ y) fd)
