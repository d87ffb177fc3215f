-- The solver is right: of every plant that is read, from any hint, the flow is the cheapest and its potentials certify it, or the places
-- that are marked must take in more than they can let out.
use mathlib.Core.Path.{◌≡◌, refl, ◌∙◌, ap, subst}
use mathlib.Core.Bool.{true, false, not}
use mathlib.Core.List.{List}
use Prim.Native.Nat.{ℕ}
use native.Mathlib.Omega.{arith}
use lib.ListN.{length}
use Rattle.num_bytes.specs.Choice.{pick}
use Rattle.num_bytes.proofs.Tests.{by_cases}
use Rattle.plant_def.specs.declared.Stream.{Stream}
use Rattle.plant_def.specs.declared.Plant as Arrays
use Rattle.plant_def.specs.Plants.{Plant}
use Rattle.plant_def.specs.Says.{plant_of}
use Rattle.plant_def.specs.Within.{Within, Accepted}
use Rattle.plant_def.proofs.Arrayed.{all_listed, within_of, stream_within}
use Rattle.flow_def.specs.Flows.{stream_at, amount_at, Cheapest}
use Rattle.flow_def.specs.Overfull.{unmarked, Overfull}
use Rattle.flow_def.proofs.Potentials.{Steps, Certificate}
use Rattle.flow_def.proofs.Decided.{Decided, solved, full}
use Rattle.flow_def.proofs.Certified.{says_kilter}
use Rattle.solve_def.specs.Held.{opened}
use Rattle.solve_def.specs.SearchNeeds.{Network}
use Rattle.solve_def.specs.declared.State.{State}
use Rattle.solve_def.specs.declared.Ended.{Ended}
use Rattle.solve_def.specs.Model.{no_hint, ties_to, finished, masked, settled}
use Rattle.solve_def.specs.Made.{made}
use Rattle.solve_def.specs.Whole.{solved_from}
use Rattle.solve_def.specs.SolverNeeds.{Hinted, AtHint, Even}
use Rattle.solve_def.specs.Promise.{potential, potential_at, Solution, Right}
use Rattle.solve_def.proofs.Streams.{Solvable, solvable_with}
use Rattle.solve_def.proofs.Phases.{Finished}
use Rattle.solve_def.proofs.Ending.{none_hinted, finished_good, finished_even}
use Rattle.solve_def.proofs.Tying.{ended, tied_sure, tied_cheapest}
use Rattle.solve_def.proofs.Marked.{overfull_says}

-- A plant that is accepted has streams as the solver needs them.
pub network_of : (p : Arrays.Plant) → Accepted p → Network p.streams p.count
network_of p a = record {
  long = a.long;
  within = record { some_units = omega arith; few_units = omega arith; few_streams = a.within.few_streams; each = stream_within p a };
}

-- So has the list of a plant within its limits.
pub solvable_in : (q : Plant) → Within q → Solvable q.streams
solvable_in q w = solvable_with q.streams w.few_units w.few_streams w.each

-- No hint is a hint for every plant.
pub unhinted : (q : Plant) → Within q → Hinted q.streams no_hint
unhinted q w = none_hinted q.streams (solvable_in q w)

-- The start without a hint is one.
pub from_none : (q : Plant) → Within q → AtHint q.streams (settled q.streams no_hint)
from_none q w = record { hint = no_hint; hinted = unhinted q w; is = refl }

-- From amounts settled at any hint the definitions give the cheapest flow, where no set is full, and else such a set.
module _ (q : Plant) (w : Within q) (e : Ended) (f : Finished q.streams e) where
  abbrev ss : List Stream
  ss = q.streams

  abbrev ps : List ℕ
  ps = e.state.potentials

  abbrev ys : List ℕ
  ys = ties_to q.streams e.state.potentials (length q.streams) e.state.flows

  module _ (n : e.full ≡ false) where
    even : Even ss ps 0 e.state.flows
    even = finished_even ss (solvable_in q w) e f n

    ended_cheapest : Cheapest q (opened (length ss) ys)
    ended_cheapest = tied_cheapest q w (solvable_in q w) ps e.state.flows even

    ended_sure : Certificate q (opened (length ss) ys) (potential_at ps)
    ended_sure = tied_sure q w (solvable_in q w) ps e.state.flows even

    ended_even : Even ss ps (length ss) ys
    ended_even = ended q w (solvable_in q w) ps e.state.flows even

  -- A full set at the end is overfull.
  pub ended_full : e.full ≡ true → Overfull q (masked q.units e.marked)
  ended_full n = overfull_says q w (solvable_in q w) e.marked (f.found n)

-- So every plant within its limits is decided.
pub decided : (q : Plant) → Within q → Decided q
decided q w = go (finished q.streams (settled q.streams no_hint)) (finished_good q.streams (solvable_in q w) _ (from_none q w))
  where
    go : (e : Ended) → Finished q.streams e → Decided q
    go e f = by_cases e.full
        (λ n. full (masked q.units e.marked) (ended_full q w e f n))
        (λ n. solved _ _ (ended_cheapest q w e f n) (ended_sure q w e f n))

-- No mark is left where none was.
masked_none : (n : ℕ) → masked n unmarked ≡ unmarked
unfolding masked
masked_none n = refl

-- Of a plant in an array.
module _ (p : Arrays.Plant) (a : Accepted p) (st : State) (s : AtHint (plant_of p).streams st) where
  abbrev q : Plant
  q = plant_of p

  -- What is solved from a hint is right.
  pub solved_right : Right p (solved_from p.units (plant_of p).streams st)
  unfolding solved_from
  solved_right = go (finished q.streams st) (finished_good q.streams (solvable_in q w) st s)
    where
      w : Within (plant_of p)
      w = within_of p a

      go : (e : Ended) → Finished q.streams e
          → Right p (record {
            found = not e.full;
            flows = pick e.full e.state.flows (ties_to q.streams e.state.potentials (length q.streams) e.state.flows);
            potentials = e.state.potentials;
            marked = masked p.units e.marked;
            made = made q.streams st;
          })
      go e f = by_cases e.full (λ n. rw n (ended_full q w e f n)) (λ n. rw n (found n))
        where
          found : e.full ≡ false
              → Solution p (record {
                found = true;
                flows = ys q w e f;
                potentials = e.state.potentials;
                marked = masked p.units e.marked;
                made = made q.streams st;
              })
          found n = record {
            cheapest = subst (λ (m : ℕ). Cheapest q (opened m (ys q w e f))) (all_listed p a) (ended_cheapest q w e f n);
            steps = λ k l. says_kilter (potential_at (ps q w e f)) (stream_at q.streams k) _
                (subst (λ (m : ℕ). Steps 1 (potential_at (ps q w e f)) q.streams (amount_at (opened m (ys q w e f)))) (all_listed p a) (ended_sure q w e f n).steps k l);
            agree = λ k l m. ap potential ((ended_even q w e f n).agreed k l m);
            bound = (f.underway n).sound.capped;
            sized = λ k l. (omega (arith, ((ended_even q w e f n).sized k l).0, w.few_streams), omega (arith, ((ended_even q w e f n).sized k l).1, w.few_streams));
            long = (ended_even q w e f n).long;
            per_place = (f.underway n).sound.per_place;
            bare = ap (masked p.units) (f.bare n) ∙ masked_none p.units;
          }
