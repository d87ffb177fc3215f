-- What the solver hands over is right, where a set is full and where a flow is found.
use mathlib.Core.Path.{◌≡◌, refl, sym, ◌∙◌, ap, subst}
use mathlib.Core.Bool.{Bool, true, false, ◌&&◌}
use mathlib.Core.List.{List}
use Prim.Native.Nat.{ℕ}
use lib.Dec.{leb}
use lib.ListN.{get_or}
use Rattle.num_bytes.specs.Inner.{values}
use Rattle.num_bytes.proofs.Lists.{values_at, values_same}
use Rattle.plant_def.specs.Limits.{places}
use Rattle.plant_def.specs.declared.Stream.{Stream}
use Rattle.plant_def.specs.declared.Plant as Arrays
use Rattle.plant_def.specs.Within.{Accepted}
use Rattle.plant_def.specs.Says.{plant_of}
use Rattle.plant_def.proofs.Arrayed.{all_listed, within_of}
use Rattle.flow_def.specs.Overfull.{Overfull}
use Rattle.solve_def.specs.declared.State.{State}
use Rattle.solve_def.specs.declared.Ended.{Ended}
use Rattle.solve_def.specs.declared.Solved.{Solved}
use Rattle.solve_def.specs.Full.{overfull}
use Rattle.solve_def.specs.Model.{finished, masked, ties_to}
use Rattle.solve_def.specs.Made.{made}
use Rattle.solve_def.specs.Whole.{solved_from}
use Rattle.solve_def.specs.Few.{Effort}
use Rattle.solve_def.specs.SolverNeeds.{AtHint}
use Rattle.solve_def.specs.Promise.{Right}
use Rattle.solve_def.proofs.Marked.{overfull_says}
use Rattle.solve_def.proofs.Phases.{Finished}
use Rattle.solve_def.proofs.Ending.{finished_good, finished_even}
use Rattle.solve_def.proofs.Counted.{effort}
use Rattle.solve_def.proofs.Theorem.{network_of, solvable_in, ended_full, solved_right}
use Rattle.solve_arcs.specs.Cells.{count_of}
use Rattle.solve_arcs.specs.ArcNeeds.{Laid, Margined}
use Rattle.solve_ties.specs.Evens.{Tieable}

module _ (p : Arrays.Plant) (a : Accepted p) (st : State) (s : AtHint (plant_of p).streams st) (e : Ended) (q : e ≡ finished (plant_of p).streams st) where
  abbrev ss : List Stream
  ss = (plant_of p).streams

  -- How the phases end.
  pub ends : Finished ss e
  ends = rw q (finished_good ss (solvable_in (plant_of p) (within_of p a)) st s)

  -- What is handed over where a set is full.
  pub full_right : (own : List Bool) → e.full ≡ true → own ≡ masked p.units e.marked → Overfull (plant_of p) own
  full_right own n o = rw o (ended_full (plant_of p) (within_of p a) e ends n)

  -- The count is the definition's, and so it is small.
  pub counted : (count : ℕ) → count ≡ made ss st → Effort ss st count
  counted = effort ss (solvable_in (plant_of p) (within_of p a)) st s

  module _ (n : e.full ≡ false) where
    -- What the tie pass begins from.
    abbrev pub tieable : (ls rs : List ℕ) → Laid p.streams p.count ls rs → Tieable ls rs e.state.potentials 0 e.state.flows
    tieable ls rs l = record {
      streams = p.streams;
      n = p.count;
      network = network_of p a;
      laid = l;
      potentials = (ends.underway n).sound.capped;
      even = finished_even ss (solvable_in (plant_of p) (within_of p a)) e ends n;
    }

    -- And the margins of all streams in use.
    pub tie_margined : (ls rs ms : List ℕ) → Laid p.streams p.count ls rs → Margined p.count rs e.state.flows 1 0 ms
        → Margined (count_of ls) rs e.state.flows 1 0 ms
    tie_margined ls rs ms l m = subst (λ (k : ℕ). Margined k rs e.state.flows 1 0 ms) (sym l.along.counted) m

    module _ (flows : List ℕ) (own : List Bool) (count : ℕ) (f : flows ≡ ties_to ss e.state.potentials p.count e.state.flows)
        (o : own ≡ masked p.units e.marked) (c : count ≡ made ss st) where
      found_is : solved_from p.units ss st ≡ record { found = true; flows = flows; potentials = e.state.potentials; marked = own; made = count }
      unfolding solved_from
      found_is = rw (← q, n, f, o, c, all_listed p a)

      -- What is handed over where a flow is found.
      pub found_right : Right p (record { found = true; flows = flows; potentials = e.state.potentials; marked = own; made = count })
      found_right = subst (Right p) found_is (solved_right p a st s)

twice : (a b : Bool) → (a && b) && b ≡ (a && b)
twice true true = refl
twice true false = refl
twice false b = refl

-- Marks of the places of a plant stay as they are where they are cut to these.
masked_twice : (n : ℕ) (ms : List Bool) → masked n (masked n ms) ≡ masked n ms
unfolding masked
masked_twice n ms =
    values_same places (λ u. get_or (values places (λ v. get_or ms v false && leb v n)) u false && leb u n) (λ u. get_or ms u false && leb u n)
    (λ k l. ap (λ (b : Bool). b && leb k n) (values_at (λ v. get_or ms v false && leb v n) false places k l) ∙ twice (get_or ms k false) (leb k n))

-- What is handed over if a set that is guessed passes the test.
pub guess_right : (p : Arrays.Plant) → Accepted p → (ms : List Bool) (r : Solved) → overfull (plant_of p).streams (masked p.units ms) ≡ true
    → r.found ≡ false → r.marked ≡ masked p.units ms → Right p r
guess_right p a ms r t f m = rw (f, m) full
  where
    full : Overfull (plant_of p) (masked p.units ms)
    full =
        subst (Overfull (plant_of p)) (masked_twice p.units ms)
        (overfull_says (plant_of p) (within_of p a) (solvable_in (plant_of p) (within_of p a)) (masked p.units ms) t)
