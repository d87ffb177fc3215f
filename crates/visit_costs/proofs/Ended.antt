-- Where the phases end, a flow of least cost is held: its potentials certify it, before any tie is sought.
use mathlib.Core.Path.{◌≡◌, subst}
use mathlib.Core.Bool.{true, false}
use mathlib.Core.List.{List}
use Prim.Native.Nat.{ℕ}
use native.Mathlib.Omega.{arith}
use lib.ListN.{length}
use Rattle.num_bytes.proofs.Tests.{clash}
use Rattle.plant_def.specs.declared.Stream.{Stream}
use Rattle.plant_def.specs.declared.Plant as Arrays
use Rattle.plant_def.specs.Limits.{max_streams}
use Rattle.plant_def.specs.Within.{Accepted}
use Rattle.plant_def.specs.Says.{plant_of}
use Rattle.plant_def.proofs.Arrayed.{all_listed, within_of}
use Rattle.flow_def.specs.Flows.{allowed, cost, OfLeastCost}
use Rattle.flow_def.proofs.Overfull.{overfull_none}
use Rattle.flow_def.proofs.Potentials.{Certificate, least}
use Rattle.solve_def.specs.declared.State.{State}
use Rattle.solve_def.specs.declared.Ended.{Ended}
use Rattle.solve_def.specs.Held.{opened}
use Rattle.solve_def.specs.Model.{finished, masked}
use Rattle.solve_def.specs.Promise.{potential_at}
use Rattle.solve_def.specs.SolverNeeds.{AtHint, Even, Amounts}
use Rattle.solve_def.proofs.Phases.{Finished}
use Rattle.solve_def.proofs.Ending.{finished_good, finished_even}
use Rattle.solve_def.proofs.Certify.{certify}
use Rattle.solve_def.proofs.Theorem.{solvable_in, ended_full}
use Rattle.sheet_def.specs.Totals.{capped}
use Rattle.visit_def.specs.Visits.{LeastCost, Feasible}

module _ (p : Arrays.Plant) (a : Accepted p) (st : State) (s : AtHint (plant_of p).streams st) (e : Ended) (q : e ≡ finished (plant_of p).streams st) where
  abbrev ss : List Stream
  ss = (plant_of p).streams

  ends : Finished ss e
  ends = rw q (finished_good ss (solvable_in (plant_of p) (within_of p a)) st s)

  -- With a flow in range no set is full.
  pub never_full : {A : Type 0} → Feasible (plant_of p) → e.full ≡ true → A
  never_full f n =
      clash (allowed (plant_of p) f.0) f.1
      (overfull_none (plant_of p) (within_of p a) (masked p.units e.marked) (ended_full (plant_of p) (within_of p a) e ends n) 1 f.0 (omega arith))

  module _ (n : e.full ≡ false) where
    even : Even ss e.state.potentials 0 e.state.flows
    even = finished_even ss (solvable_in (plant_of p) (within_of p a)) e ends n

    -- The amounts are within their bounds.
    pub amounts : Amounts e.state.flows
    amounts = λ k h. omega (arith, (even.sized k h).0)

    -- As many amounts as there may be streams.
    pub all_held : length e.state.flows ≡ max_streams
    all_held = even.long

    sure : Certificate (plant_of p) (opened (length ss) e.state.flows) (potential_at e.state.potentials)
    sure = certify (plant_of p) (within_of p a) e.state.potentials 0 e.state.flows even (omega arith)

    least_flow : OfLeastCost (plant_of p) (opened p.count e.state.flows)
    least_flow =
        subst (λ (m : ℕ). OfLeastCost (plant_of p) (opened m e.state.flows)) (all_listed p a)
        (record {
          balance = sure.balance;
          least = λ ys b. least (plant_of p) (within_of p a) (potential_at e.state.potentials) (opened (length ss) e.state.flows) sure ys b;
        })

    -- Their cost, capped, is the least.
    pub least_found : (c : ℕ) → c ≡ capped (cost ss (opened p.count e.state.flows)) → LeastCost (plant_of p) c
    least_found c h = (opened p.count e.state.flows, least_flow, h)
