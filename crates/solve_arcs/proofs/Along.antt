-- An arc by its stream and its direction: where it leads, and its reduced cost.
use mathlib.Core.Path.{◌≡◌, sym}
use mathlib.Core.Bool.{Bool, true, false}
use mathlib.Core.List.{List}
use Prim.Native.Nat.{ℕ, zero, suc, ◌+◌, ◌*◌, ◌/◌, ◌%◌, ◌<◌}
use native.Mathlib.Nat.{div-add-mod', mod-lt}
use native.Mathlib.Omega.{arith}
use lib.Dec.{eqb}
use lib.ListN.{get_or}
use Rattle.num_bytes.proofs.Lists.{values_at}
use Rattle.solve_arcs.specs.Cells.{to_cell, arc_of, count_of, starts_of, ends_of}
use Rattle.solve_arcs.specs.Margins.{reduced_cost, reduced_costs, leaves, reaches}

-- An arc's number tells its stream and its direction.
pub arc_parts : (l : ℕ) → l ≡ arc_of (l / 2) (eqb (l % 2) 1)
arc_parts l = go (l % 2) (mod-lt l (omega arith)) (div-add-mod' l 2)
  where
    go : (r : ℕ) → r < 2 → l / 2 * 2 + r ≡ l → l ≡ arc_of (l / 2) (eqb r 1)
    go zero b e = omega arith
    go (suc zero) b e = omega arith
    go (suc (suc r)) b e = absurd (omega arith)

-- Where stream k starts is where its arc backwards leads.
pub starts_at : (ls : List ℕ) (k : ℕ) → k < count_of ls → get_or (starts_of ls) k 0 ≡ get_or ls (to_cell + 2 * k) 0
unfolding starts_of
starts_at ls k l = values_at (λ k. get_or ls (to_cell + 2 * k) 0) 0 (count_of ls) k l

-- Where it ends is where its arc forwards leads.
pub ends_at : (ls : List ℕ) (k : ℕ) → k < count_of ls → get_or (ends_of ls) k 0 ≡ get_or ls (to_cell + (2 * k + 1)) 0
unfolding ends_of
ends_at ls k l = values_at (λ k. get_or ls (to_cell + (2 * k + 1)) 0) 0 (count_of ls) k l

-- Where an arc leads.
pub reach_is : (ls : List ℕ) (k : ℕ) (f : Bool) → k < count_of ls → get_or ls (to_cell + arc_of k f) 0 ≡ reaches ls f k
reach_is ls k true l = sym (ends_at ls k l)
reach_is ls k false l = let e : 2 * k + 0 ≡ 2 * k = omega arith in rw e (sym (starts_at ls k l))

-- Its reduced cost.
pub reduced_is : (ls ms ps : List ℕ) (f : Bool) (k : ℕ) → k < count_of ls
    → get_or (reduced_costs ls ms ps f) k 0 ≡ reduced_cost (get_or ms (arc_of k f) 0) (get_or ps (leaves ls f k) 0) (get_or ps (reaches ls f k) 0)
unfolding reduced_costs
reduced_is ls ms ps f k l = values_at (λ k. reduced_cost (get_or ms (arc_of k f) 0) (get_or ps (leaves ls f k) 0) (get_or ps (reaches ls f k) 0)) 0 (count_of ls) k l
