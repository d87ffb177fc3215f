-- Each store keeps the bound.
use Rattle.std.proofs.Common.{ℕ, suc, ◌%◌, ◌≤◌, ◌∙◌, arith, length-set}
use lib.ListN.{length-replicate, get_or-replicate}
use Rattle.plant_def.specs.Limits.{places}
use Rattle.num_bytes.proofs.Lists.{set_each}
use Rattle.solve_def.specs.Sizes.{potential_shift}
use Rattle.case_calls.proofs.compressed.potentials_of.Goals as goal

below : (x : ℕ) → x % suc potential_shift ≤ potential_shift
below x = omega arith

pub loop-u-init : goal.loop-u-init
loop-u-init c = (length-replicate places potential_shift, λ u l. omega (arith, get_or-replicate {A = ℕ} places u potential_shift 0 l))

pub loop-u-preserved : goal.loop-u-preserved
loop-u-preserved c =
    let ps = c.loop-u.potentials in (
      length-set ps _ _ ∙ c.loop-u.invariant.0,
      set_each (λ (x : ℕ). x ≤ potential_shift) 0 ps _ _ places (rw c.loop-u.invariant.0 c.loop-u-test.true) (below _) c.loop-u.invariant.1,
    )
