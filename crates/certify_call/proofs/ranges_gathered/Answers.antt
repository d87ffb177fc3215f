-- Each turn puts the next stream, with its range, into the array.
use mathlib.Core.Path.{◌∙◌}
use native.Mathlib.Omega.{arith}
use Prim.Native.Nat.{ℕ, ◌<◌}
use lib.ListN.{length-set, length-replicate}
use borrow.Author.Count.{below_none}
use Rattle.plant_def.specs.declared.Stream.{Stream}
use Rattle.plant_def.specs.Limits.{max_streams}
use Rattle.plant_parts.specs.Inner.{range_at}
use Rattle.certify_def.specs.declared.WideStream.{WideStream}
use Rattle.certify_def.specs.Test.{wide_at}
use Rattle.certify_call.proofs.Calling as C
use Rattle.certify_call.proofs.ranges_gathered.Goals as goal
use Rattle.certify_call.proofs.ranges_gathered.Goals.{At-loop-k, In-loop-k}

abbrev stream : At-loop-k → ℕ → Stream
stream c =
    let a = c.args in
    λ k. range_at a.ranged.now a.low.now a.high.now (wide_at a.meters k) k

pub loop-k-init : goal.loop-k-init
loop-k-init c = (length-replicate {A = WideStream} max_streams c.default-streams.result, below_none _)

room : (c : In-loop-k) → c.loop-k.k < max_streams
room c = omega (arith, c.requires.0, c.loop-k-test.true)

pub loop-k-preserved : goal.loop-k-preserved
loop-k-preserved c =
    let at = c.loop-k in (
      length-set at.streams at.k _ ∙ at.invariant.0,
      C.gathered_more at.streams (stream (goal.at.loop-k-preserved c).At-loop-k) at.k c.range_at.result (rw at.invariant.0 (room (goal.at.loop-k-preserved c).In-loop-k)) at.invariant.1 c.range_at.ensures,
    )

pub returns : goal.returns
returns c = λ k l. c.loop-k.invariant.1 k (omega arith)
