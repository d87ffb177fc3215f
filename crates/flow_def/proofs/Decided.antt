-- A plant is decided by a cheapest flow with potentials that certify it, or by an overfull set. Demand 3 and refusal 19 follow.
use mathlib.Core.Path.{◌≡◌}
use mathlib.Core.Bool.{Bool, true}
use mathlib.Core.Logic.{◌⊎◌, inl, inr}
use mathlib.Core.List.{List}
use lib.IntN.{ℤ}
use Prim.Native.Nat.{ℕ}
use native.Mathlib.Omega.{arith}
use Rattle.num_bytes.proofs.Tests.{clash}
use Rattle.plant_def.specs.Plants.{Plant}
use Rattle.plant_def.specs.Within.{Within}
use Rattle.plant_def.proofs.Accepted.{read_within}
use Rattle.flow_def.specs.Flows.{allowed, Cheapest}
use Rattle.flow_def.specs.Shown.{Shown, Demand3}
use Rattle.flow_def.specs.Overfull.{Overfull, Refusal19}
use Rattle.flow_def.proofs.Given.{its_number_of}
use Rattle.flow_def.proofs.Withheld.{number_of, blank_of}
use Rattle.flow_def.proofs.Potentials.{Certificate}
use Rattle.flow_def.proofs.Nearness.{as_read, near}
use Rattle.flow_def.proofs.Order.{one}
use Rattle.flow_def.proofs.Overfull.{overfull_none}

-- Either the cheapest flow with its certificate, or a set that shows that there is no flow in range.
pub data Decided (p : Plant) : Type 0 where
  solved : (xs : List ℤ) (π : ℕ → ℤ) → Cheapest p xs → Certificate p xs π → Decided p
  full : (ms : List Bool) → Overfull p ms → Decided p

-- The potentials that certify one cheapest flow speak for every cheapest flow.
pub shown : (p : Plant) → Within p → (xs : List ℤ) (π : ℕ → ℤ) → Cheapest p xs → Certificate p xs π → Shown p
shown p w xs π h c = record {
  some = (xs, h);
  one = one p;
  as_read = as_read p w π xs c;
  number = number_of p w;
  blank = blank_of p w;
  its_number = λ ys i b. its_number_of p w ys b i;
  near = near p w π xs c;
}

-- Where some flow is in range no set is overfull.
pub decided_shown : (p : Plant) → Within p → (ys : List ℤ) → allowed p ys ≡ true → Decided p → Shown p
decided_shown p w ys a (solved xs π h c) = shown p w xs π h c
decided_shown p w ys a (full ms o) = clash (allowed p ys) a (overfull_none p w ms o 1 ys (omega arith))

decided_either : (p : Plant) → Decided p → ((xs : List ℤ) × Cheapest p xs) ⊎ ((ms : List Bool) × Overfull p ms)
decided_either p (solved xs π h c) = inl (xs, h)
decided_either p (full ms o) = inr (ms, o)

-- Where every plant within its limits is decided.
module _ (decided : (p : Plant) → Within p → Decided p) where
  -- The customer's third demand holds,
  pub demand_3 : Demand3
  demand_3 file p ys e a = let w = read_within file p e in decided_shown p w ys a (decided p w)

  -- and a plant that is read has a cheapest flow or an overfull set, never both.
  pub refusal_19 : Refusal19
  refusal_19 = record {
    either = λ file p e. decided_either p (decided p (read_within file p e));
    none = λ file p ms e. overfull_none p (read_within file p e) ms;
  }
