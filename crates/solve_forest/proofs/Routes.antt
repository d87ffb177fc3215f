-- Laws of the amounts routed along a spanning forest.
use Rattle.std.proofs.Common.{ℕ, ◌<◌, ◌≤◌, List, get_or, set, replicate, ap, ◌∙◌, arith, length-set, get_or-set_other, get_or-set_same}
use native.Mathlib.Decide.{ℕ_discrete}
use lib.ListN.{length-replicate, get_or-replicate}
use Rattle.plant_def.specs.declared.Stream.{Stream}
use Rattle.num_bytes.proofs.Tests.{clash}
use Rattle.plant_def.specs.Limits.{max_streams}
use Rattle.plant_def.specs.Plants.{no_stream}
use Rattle.solve_def.specs.Sizes.{flow_shift, most_flow, hint_room}
use Rattle.solve_def.specs.SearchNeeds.{SizeWithin}
use Rattle.solve_def.specs.SolverNeeds.{Amounts}
use Rattle.solve_forest.specs.Forests.{Unmetered}
use Rattle.solve_forest.specs.Routes.{Routes, Unchanged}
use Rattle.num_bytes.proofs.Lists.{set_each}

-- Amounts 0, and one of them another.
pub routes_none : {ss : List Stream} → Routes ss (replicate max_streams flow_shift)
routes_none = record {
  long = length-replicate max_streams flow_shift;
  most = λ k l. let e = get_or-replicate {A = ℕ} max_streams k flow_shift 0 l in omega arith;
  sized = λ k l m. let e = get_or-replicate {A = ℕ} max_streams k flow_shift 0 l in (omega arith, omega arith);
}

-- A store of an amount within the hint's room.
pub routes_set : {ss : List Stream} {xs : List ℕ} → Routes ss xs → (i x : ℕ) → i < max_streams → SizeWithin hint_room x → Routes ss (set xs i x)
routes_set {ss} {xs} r i x l h = record {
  long = length-set xs i x ∙ r.long;
  most = set_each (λ (y : ℕ). y ≤ most_flow) 0 xs i x max_streams (rw r.long l) (omega (arith, h.0)) r.most;
  sized = λ k m e. elim (ℕ_discrete k i) [
    | yes q ↦ rw (q, get_or-set_same xs i x 0 (rw r.long l)) h
    | no q ↦ rw (get_or-set_other xs i k x 0 q) (r.sized k m e)
  ];
}

-- A store to an unmetered stream leaves the metered ones as they are.
pub kept_set : {streams : List Stream} {n : ℕ} {xs ys : List ℕ} → Unchanged streams n xs ys → (i x : ℕ) → Unmetered streams n i → Unchanged streams n xs (set ys i x)
kept_set {streams} {n} {xs} {ys} h i x u = record {
  each = λ k l m. get_or-set_other ys i k x 0 (λ q. clash _ m (ap (λ (j : ℕ). (get_or streams j no_stream).metered) q ∙ u.1)) ∙ h.each k l m;
}

-- All amounts can be held.
pub routes_amounts : {ss : List Stream} {xs : List ℕ} → Routes ss xs → Amounts xs
routes_amounts r = r.most
