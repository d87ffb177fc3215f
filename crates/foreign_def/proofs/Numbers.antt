-- Numbers of the places: potentials that certify a flow certify every flow of least cost; those of the solver are within the limit.
use mathlib.Core.Path.{◌≡◌, subst}
use mathlib.Core.Bool.{true}
use mathlib.Core.List.{List}
use mathlib.Core.Logic.{⊎_elim}
use lib.IntN.{ℤ, pos, ◌-ℤ◌, nat_abs}
use Prim.Native.Nat.{ℕ, ◌≤◌, ◌<◌}
use native.Mathlib.Omega.{arith}
use lib.ListN.{get_or}
use Rattle.num_bytes.proofs.Tests.{by_cases}
use Rattle.plant_def.specs.declared.Plant as Arrays
use Rattle.plant_def.specs.Plants.{Plant}
use Rattle.plant_def.specs.Says.{plant_of}
use Rattle.plant_def.specs.Within.{Within, Accepted}
use Rattle.flow_def.specs.Flows.{amount_at, OfLeastCost}
use Rattle.flow_def.specs.Certificate.{weight_of, climb, rises, falls}
use Rattle.num_bytes.proofs.Integers.{same, val, minus_val, size_val, parts}
use Rattle.flow_def.proofs.Nets.{count_of, stream_of}
use Rattle.flow_def.proofs.Potentials.{StepAt, Certificate, ties}
use Rattle.flow_def.proofs.Certified.{kilter_says}
use Rattle.solve_def.specs.Sizes.{potential_shift}
use Rattle.solve_def.specs.declared.Solved.{Solved}
use Rattle.solve_def.specs.Promise.{potential, potential_at, flow_of, Solution}
use Rattle.foreign_def.specs.Passing.{number_limit}
use Rattle.foreign_def.specs.Test.{potential_from}
use Rattle.foreign_def.proofs.Stepping.{step_level, level_step, step_alike, tied_step}

-- Potentials that certify one flow certify every flow of least cost.
same_amount : (x y r : ℤ) → y -ℤ r ≡ x -ℤ r → x ≡ y
same_amount x y r e = same x y (omega (arith, val (y -ℤ r) (x -ℤ r) e, minus_val x r, minus_val y r))

module _ (p : Plant) (w : Within p) where
  -- Potentials that certify one flow of least cost certify all.
  pub same_potentials : (π : ℕ → ℤ) (xs : List ℤ) → Certificate p xs π → (ys : List ℤ) → OfLeastCost p ys → Certificate p ys π
  same_potentials π xs c ys b = record {
    balance = b.balance;
    steps = λ k l. by_cases (stream_of p k).metered (λ t. metered k l t)
        (λ t. level_step π (stream_of p k) t _ (step_level π (stream_of p k) t (amount_at xs k) (c.steps k l)));
  }
    where
      metered : (k : ℕ) → k < count_of p → (stream_of p k).metered ≡ true → StepAt 1 π (stream_of p k) (amount_at ys k)
      metered k l t =
          let s = stream_of p k in
          let some : 1 ≤ weight_of (stream_of p k) = rw t ((w.each k l).weighed t) in
          tied_step (weight_of s) (amount_at xs k -ℤ s.reading) (amount_at ys k -ℤ s.reading) (climb π s) (falls s (amount_at xs k)) (rises s (amount_at xs k))
          (falls s (amount_at ys k)) (rises s (amount_at ys k)) (c.steps k l)
          (ties p w π xs c ys b.balance (b.least xs c.balance) k l some)
          (λ q. subst (λ (z : ℤ). StepAt 1 π (stream_of p k) z) (same_amount (amount_at xs k) (amount_at ys k) s.reading q) (c.steps k l))

-- The solver's potentials, less that of the outside, climb as the potentials do.
same_climb : (a b c s : ℕ) → (pos a -ℤ pos c) -ℤ (pos b -ℤ pos c) ≡ (pos a -ℤ pos s) -ℤ (pos b -ℤ pos s)
same_climb a b c s =
    same _ _
    (omega (
      arith,
      minus_val (pos a -ℤ pos c) (pos b -ℤ pos c),
      minus_val (pos a -ℤ pos s) (pos b -ℤ pos s),
      minus_val (pos a) (pos c),
      minus_val (pos b) (pos c),
      minus_val (pos a) (pos s),
      minus_val (pos b) (pos s),
    ))

-- Those of a solution certify its flow, and are within the limit.
module _ (p : Arrays.Plant) (a : Accepted p) (s : Solved) (r : Solution p s) where
  climbs : (k : ℕ) → climb (potential_from s.potentials) (stream_of (plant_of p) k) ≡ climb (potential_at s.potentials) (stream_of (plant_of p) k)
  unfolding potential
  climbs k = same_climb _ _ (get_or s.potentials 0 0) potential_shift

  -- A solution's potentials, less the outside's, certify its flow.
  pub solution_certifies : Certificate (plant_of p) (flow_of p s) (potential_from s.potentials)
  solution_certifies = record {
    balance = r.cheapest.balance;
    steps = λ k l. step_alike (potential_from s.potentials) (potential_at s.potentials) (stream_of (plant_of p) k) (amount_at (flow_of p s) k) (climbs k)
        (kilter_says (potential_at s.potentials) (stream_of (plant_of p) k) (amount_at (flow_of p s) k) (r.steps k l));
  }

  -- They are within the limit of numbers.
  pub solution_few : (u : ℕ) → u ≤ p.units → nat_abs (potential_from s.potentials u) ≤ number_limit
  solution_few u l =
      let z = potential_from s.potentials u in
      let v = minus_val (pos (get_or s.potentials u 0)) (pos (get_or s.potentials 0 0)) in
      let m = size_val z in
      let b = r.bound u (omega (arith, a.within.few_units)) in
      let o = r.bound 0 (omega arith) in
      ⊎_elim (λ k. omega arith) (λ k. omega arith) (parts z)
