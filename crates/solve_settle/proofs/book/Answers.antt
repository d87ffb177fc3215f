-- `solve_settle::book` meets its contract: both stores stay in range.
use Prim.Native.Nat.{◌+◌}
use native.Mathlib.Omega.{arith}
use Rattle.solve_def.specs.Sizes.{most_flow, net_room}
use Rattle.solve_def.specs.Model.{left}
use Rattle.solve_def.specs.SolverNeeds.{Around}
use Rattle.solve_def.proofs.Booking.{left_around}
use Rattle.solve_settle.proofs.book.Goals as goal
use Rattle.solve_settle.proofs.book.Goals.{Start}

-- After the first store.
once : (st : Start) → Around (left st.args.nets.now st.args.u st.args.x) (net_room + most_flow)
once st = left_around st.requires.3 (omega arith) st.args.u st.args.x st.requires.0 st.requires.2

pub overflow_add-nets : goal.overflow_add-nets
overflow_add-nets c =
    omega (arith, c.requires.3.high c.args.u c.requires.0)

pub overflow_sub-nets : goal.overflow_sub-nets
overflow_sub-nets c =
    omega (arith, c.requires.3.low c.args.u c.requires.0)

pub overflow_add-nets-2 : goal.overflow_add-nets-2
overflow_add-nets-2 c =
    omega (arith, (once (goal.at.overflow_add-nets-2 c).Start).high c.args.v c.requires.1)

pub overflow_sub-nets-2 : goal.overflow_sub-nets-2
overflow_sub-nets-2 c =
    omega (arith, (once (goal.at.overflow_sub-nets-2 c).Start).low c.args.v c.requires.1)
