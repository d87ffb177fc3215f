-- The first stream at fault decides.
use mathlib.Core.Path.{◌≡◌}
use Rattle.certify_def.specs.Number.{wide_faults}
use Rattle.certify_def.specs.Test.{wide_at}
use Rattle.certify_flows.proofs.check_streams.Given as goal

abbrev pub invariant-loop-s : goal.invariant-loop-s
invariant-loop-s l = wide_faults l.units (wide_at l.fn.streams) l.s-index ≡ 0
