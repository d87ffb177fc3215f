-- Potentials by label and routed amounts are a hint, and the state that they give is settled at it.
use mathlib.Core.Path.{◌≡◌, sym, ◌∙◌, ap, subst}
use mathlib.Core.Bool.{true, false}
use mathlib.Core.List.{List}
use Prim.Native.Nat.{ℕ, ◌+◌, ◌≤◌, ◌<◌}
use native.Mathlib.Omega.{arith}
use lib.ListN.{get_or, replicate}
use Rattle.plant_def.specs.declared.Stream.{Stream}
use Rattle.plant_def.specs.declared.Plant as Arrays
use Rattle.flow_def.specs.Flows.{stream_at}
use Rattle.plant_def.specs.Limits.{max_streams}
use Rattle.plant_def.specs.Plants.{no_stream}
use Rattle.plant_def.specs.Within.{Accepted}
use Rattle.plant_def.specs.Says.{plant_of}
use Rattle.plant_def.proofs.Arrayed.{all_listed, listed_at, within_of}
use Rattle.flow_def.specs.Chains.{unmetered_only}
use Rattle.flow_def.specs.Labels.{labels_of}
use Rattle.newton_laplacian.specs.Ends.{Labels, Placed}
use Rattle.newton_descend.specs.Levels.{Level}
use Rattle.solve_def.specs.Sizes.{flow_shift, potential_shift, potential_spread, hint_room}
use Rattle.solve_def.specs.declared.Hint.{Hint}
use Rattle.solve_def.specs.Model.{settled_to, nets_to, state_of}
use Rattle.solve_def.specs.SolverNeeds.{Hinted, Ready, AtHint}
use Rattle.solve_arcs.specs.ArcNeeds.{Laid, Laying}
use Rattle.solve_arcs.proofs.Rowing.{below, from_is, to_is}
use Rattle.solve_forest.specs.Routes.{Routes, Unchanged}
use Rattle.flow_def.proofs.Nets.{inside_of}
use Rattle.flow_def.proofs.Labels.{label_long, label_low, label_level}
use Rattle.solve_def.proofs.Nearest.{settled_long, settled_at, settled_again, settled_free}
use Rattle.solve_def.proofs.Layouts.{hinted_ready, ready_amounts, settled_is}
use Rattle.solve_def.proofs.Theorem.{network_of, solvable_in}
use Rattle.solve_forest.proofs.Routes.{routes_none}

module _ (p : Arrays.Plant) (a : Accepted p) where
  -- The labels of the groups are places, one for each place.
  pub labels_of_lem : Labels (labels_of unmetered_only (plant_of p))
  labels_of_lem = record {
    long = label_long unmetered_only (plant_of p) a.within.few_units (inside_of p a);
    within = λ u l. omega (arith, label_low unmetered_only (plant_of p) a.within.few_units (inside_of p a) u l);
  }

  -- The label of each end of a stream is a unit of the plant, or the outside.
  pub placed_of : {ls rs : List ℕ} → Laid p.streams p.count ls rs → Placed (p.units + 1) (labels_of unmetered_only (plant_of p)) ls rs
  placed_of {ls} {rs} d = record {
    few = omega (arith, a.within.few_units);
    laying = w;
    starts = λ k l. rw (from_is ls rs w k l) (low (get_or p.streams k no_stream).from (a.within.each k (below ls rs w k l)).from_in);
    ends = λ k l. rw (to_is ls rs w k l) (low (get_or p.streams k no_stream).to (a.within.each k (below ls rs w k l)).to_in);
  }
    where
      w : Laying ls rs
      w = record { streams = p.streams; n = p.count; network = network_of p a; laid = d }

      low : (u : ℕ) → u ≤ p.units → get_or (labels_of unmetered_only (plant_of p)) u 0 < p.units + 1
      low u h = omega (arith, label_low unmetered_only (plant_of p) a.within.few_units (inside_of p a) u (omega (arith, a.within.few_units)))

  module _ {ps xs : List ℕ} (v : Level (labels_of unmetered_only (plant_of p)) potential_shift potential_spread ps) (r : Routes (plant_of p).streams xs) where
    -- Potentials by label, with routed amounts, are a hint.
    pub level_hinted : Hinted (plant_of p).streams (record { flows = xs; potentials = ps })
    level_hinted = record {
      agree = λ k l e. v.level _ _ (omega (arith, ((within_of p a).each k l).from_in, a.within.few_units)) (omega (arith, ((within_of p a).each k l).to_in, a.within.few_units))
          (label_level unmetered_only (plant_of p) a.within.few_units (inside_of p a) k l (rw e));
      floor = λ u l. omega (arith, v.bounded.low u l);
      capped = v.bounded.high;
      per_place = v.bounded.long;
      long = r.long;
      unmetered = r.sized;
      within = omega arith;
    }

  module _ {ps : List ℕ} (v : Level (labels_of unmetered_only (plant_of p)) potential_shift potential_spread ps) where
    abbrev none : Hint
    none = record { flows = replicate max_streams flow_shift; potentials = ps }

    -- At potentials by label, with all amounts 0, amounts can be settled.
    pub level_ready : Ready (plant_of p).streams none
    level_ready = hinted_ready p.streams p.count (network_of p a) none (level_hinted v routes_none)

    -- Metered amounts settled, the others 0.
    abbrev xs : List ℕ
    xs = settled_to (plant_of p).streams ps (replicate max_streams flow_shift) p.count

    -- So settled, the amounts can be routed: those of unmetered streams, still 0, are within the hint's room.
    pub level_routes : Routes (plant_of p).streams xs
    level_routes = record {
      long = settled_long (plant_of p).streams ps (replicate max_streams flow_shift) p.count ∙ (routes_none {ss = (plant_of p).streams}).long;
      most = λ k l. ready_amounts p.streams p.count (network_of p a) none level_ready k l;
      sized = λ k l m. rw (settled_free_at k m) ((routes_none {ss = (plant_of p).streams}).sized k l m);
    }
      where
        settled_free_at : (k : ℕ) → (stream_at (plant_of p).streams k).metered ≡ false → get_or xs k 0 ≡ get_or (replicate max_streams flow_shift) k 0
        settled_free_at k m =
            subst (λ (n : ℕ). get_or (settled_to (plant_of p).streams ps (replicate max_streams flow_shift) n) k 0 ≡ get_or (replicate max_streams flow_shift) k 0) (all_listed p a)
            (settled_free (plant_of p).streams (solvable_in (plant_of p) (within_of p a)) none hint_room (level_hinted v routes_none) k m)

    -- What is routed leaves the metered amounts settled.
    module _ {zs ys : List ℕ} (e : zs ≡ xs) (r : Routes (plant_of p).streams ys) (kept : Unchanged p.streams p.count zs ys) where
      -- Settled once more at these potentials the amounts stay,
      pub routed_again : settled_to (plant_of p).streams ps ys p.count ≡ ys
      routed_again = settled_again (plant_of p).streams ps ys p.count (λ k l m.
          kept.each k l (subst (λ (s : Stream). s.metered ≡ true) (listed_at p a k l) m)
          ∙ ap (λ (x : List ℕ). get_or x k 0) e
          ∙ settled_at (plant_of p).streams ps (replicate max_streams flow_shift) p.count k (omega (arith, (routes_none {ss = (plant_of p).streams}).long, a.within.few_streams)) l
          ∙ rw m)

      -- so they are settled at a hint.
      pub routed_start : AtHint (plant_of p).streams (record { flows = ys; potentials = ps; nets = nets_to (plant_of p).streams ys p.count })
      routed_start = record {
        hint = record { flows = ys; potentials = ps };
        hinted = level_hinted v r;
        is = ap (λ (zs : List ℕ). state_of zs ps (nets_to (plant_of p).streams zs p.count)) (sym routed_again)
            ∙ sym (settled_is p.streams p.count (network_of p a) (record { flows = ys; potentials = ps }));
      }
