-- What the solver promises, and its flows, opened.
use mathlib.Core.Path.{◌≡◌, subst}
use mathlib.Core.Bool.{Bool, true, false}
use mathlib.Core.Logic.{⊎_elim}
use Prim.Native.Nat.{ℕ, ◌≤◌}
use native.Mathlib.Omega.{arith}
use Rattle.plant_def.specs.declared.Plant as Arrays
use Rattle.num_bytes.specs.Inner.{PickT}
use Rattle.plant_def.specs.Says.{plant_of}
use Rattle.flow_def.specs.Overfull.{Overfull}
use Rattle.num_bytes.proofs.Integers.{size_val, parts}
use Rattle.solve_def.specs.Sizes.{most_flow}
use Rattle.solve_def.specs.Held.{unshifted}
use Rattle.solve_def.proofs.Amounts.{unshifted_val}
use Rattle.solve_def.specs.declared.Solved.{Solved}
use Rattle.solve_def.specs.SolverNeeds.{Amounts}
use Rattle.solve_def.specs.Promise.{Solution, Right}
use Rattle.sheet_def.specs.Calls.{Small}

-- What the solver promises, by whether it found a flow.
module _ (p : Arrays.Plant) (s : Solved) (r : Right p s) where
  -- A flow: the cheapest, with its certificate.
  pub right_found : s.found ≡ true → Solution p s
  right_found t = subst (λ (b : Bool). PickT b (Solution p s) (Overfull (plant_of p) s.marked)) t r

  -- None: an overfull set.
  pub right_overfull : s.found ≡ false → Overfull (plant_of p) s.marked
  right_overfull t = subst (λ (b : Bool). PickT b (Solution p s) (Overfull (plant_of p) s.marked)) t r

-- The solver's amounts may be held: each is at most most_flow.
pub held_amounts : (p : Arrays.Plant) (s : Solved) → Solution p s → Amounts s.flows
held_amounts p s r = λ k h. omega (arith, (r.sized k h).0)

-- An amount that the solver may hold, opened, is small.
pub opened_small : (x : ℕ) → x ≤ most_flow → Small (unshifted x)
opened_small x h =
    let z = unshifted x in
    let v = unshifted_val x in
    let s = size_val z in
    ⊎_elim (λ k. omega arith) (λ k. omega arith) (parts z)
