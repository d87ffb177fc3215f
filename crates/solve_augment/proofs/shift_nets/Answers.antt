-- `solve_augment::shift_nets` meets its contract: both stores stay in range.
use Prim.Native.Nat.{◌-◌, ◌*◌}
use lib.ListN.{get_or}
use native.Mathlib.Omega.{arith}
use Rattle.solve_def.specs.Sizes.{net_shift}
use Rattle.solve_def.proofs.Turns.{set_le}
use Rattle.solve_augment.proofs.shift_nets.Goals as goal

pub overflow_add-nets : goal.overflow_add-nets
overflow_add-nets c =
    let es = c.args.nets.now in
    let s = c.args.s in
    let small = set_le es s (get_or es s 0 - c.args.delta) c.args.v (2 * net_shift) (omega (arith, c.requires.start, c.requires.long)) (omega (arith, c.requires.most_start)) c.requires.most_end in
    omega (arith, small, c.requires.step)
