-- The groups of streams' ends are places: where a place is put in, and at first.
use mathlib.Core.Path.{refl, ◌∙◌}
use native.Mathlib.Omega.{arith}
use lib.ListN.{set, length-set, replicate, get_or-replicate}
use mathlib.Core.List.{List}
use lib.Ieee.{Float}
use Prim.Native.Nat.{ℕ, suc, ◌*◌, ◌≤◌, ◌<◌}
use Rattle.plant_def.specs.Limits.{max_streams}
use Rattle.num_bytes.proofs.Lists.{set_each}
use Rattle.newton_laplacian.specs.Ends.{Ends, Gathered}

-- One more among the first n.
pub ends_set : (n : ℕ) (es : List ℕ) (j g : ℕ) → Ends n es → j < 2 * max_streams → g < n → Ends n (set es j g)
ends_set n es j g e h l = record {
  long = length-set es j g ∙ e.long;
  within = set_each (λ x. x < n) 0 es j g (2 * max_streams) (rw e.long h) l e.within;
}

-- At first each is the outside.
pub ends_start : (n : ℕ) → 1 ≤ n → Ends n (replicate (2 * max_streams) 0)
ends_start n o = record { long = refl; within = λ j h. omega (arith, get_or-replicate {A = ℕ} (2 * max_streams) j 0 0 h) }

-- The streams up to the k-th.
pub gathered_first : {n count : ℕ} {es : List ℕ} {ms : List Float} → Gathered n es ms count → (k : ℕ) → k < count → Gathered n es ms (suc k)
gathered_first g k l = record { few = g.few; ends = g.ends; long = g.long; short = omega (arith, g.short) }
