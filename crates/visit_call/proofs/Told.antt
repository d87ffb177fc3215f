-- What the call lists of a plant that has a flow in range.
use mathlib.Core.Path.{◌≡◌, sym, ◌∙◌, ap}
use mathlib.Core.Bool.{Bool, true, false}
use mathlib.Core.List.{List}
use Prim.Native.Nat.{ℕ, ◌<◌}
use native.Mathlib.Omega.{arith}
use lib.ListN.{get_or, replicate}
use Rattle.plant_def.specs.declared.Plant as Arrays
use Rattle.plant_def.specs.Limits.{max_streams}
use Rattle.plant_def.specs.Plants.{Plant}
use Rattle.plant_def.specs.Within.{Accepted}
use Rattle.plant_def.specs.Says.{plant_of}
use Rattle.plant_def.proofs.Arrayed.{all_listed, within_of}
use Rattle.flow_def.specs.declared.Class.{Class}
use Rattle.flow_def.specs.declared.Class.TheVariants.{Adjusted}
use Rattle.flow_def.specs.Classes.{class_of}
use Rattle.flow_def.specs.Calls.{classes_of}
use Rattle.num_bytes.proofs.Lists.{Written, values_at}
use Rattle.solve_def.specs.declared.Solved.{Solved}
use Rattle.solve_def.specs.Promise.{flow_of, Solution}
use Rattle.visit_def.specs.Results.{Visits}
use Rattle.visit_def.specs.Visits.{without, LeastCost, Feasible, is_adjusted, is_listed, AllLeast}
use Rattle.visit_def.specs.Says.{VisitsFor}
use Rattle.visit_def.specs.Inner.{among, cost_in, PlacedTo}
use Rattle.visit_def.proofs.Placing.{all_placed}
use Rattle.visit_def.proofs.Promise as Promise

-- A solution is a flow in range.
pub solved_feasible : (a : Arrays.Plant) (s : Solved) → Solution a s → Feasible (plant_of a)
solved_feasible a s q = (flow_of a s, q.cheapest.balance)

module _ (a : Arrays.Plant) (acc : Accepted a) (f : Feasible (plant_of a)) (classes : List Class) (e : classes ≡ classes_of (plant_of a)) (listed : List Bool)
    (w : Written false max_streams (λ k x. is_adjusted (get_or classes k Adjusted)) (replicate max_streams false) listed max_streams) where
  abbrev p : Plant
  p = plant_of a

  listed_is : (k : ℕ) → k < a.count → among listed k ≡ is_listed p k
  listed_is k l =
      let m : k < max_streams = omega (arith, acc.within.few_streams) in
      w.done k m ∙ ap is_adjusted (ap (λ (cs : List Class). get_or cs k Adjusted) e ∙ values_at (class_of p) Adjusted max_streams k m)

  module _ (costs : List ℕ) (h : (k : ℕ) → k < a.count → get_or listed k false ≡ true → LeastCost (without p k) (get_or costs k 0)) where
    least : AllLeast p (cost_in costs)
    least k l t = let m : k < a.count = rw (all_listed a acc) at l in h k m (listed_is k m ∙ t)

    -- The list, by the costs that were found.
    pub told : (r : Visits) → PlacedTo a.count (among listed) (cost_in costs) r a.count → VisitsFor p r
    told r v =
        Promise.all_listed p (within_of a acc) r f.0 f.1 (cost_in costs) least
        (all_placed p a.count (sym (all_listed a acc)) acc.within.few_streams (among listed) (cost_in costs) listed_is r v)
