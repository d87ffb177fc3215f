-- Twice the correction less 1, times the weight, fits 64 bits.
use lib.IntN.{pos, ◌-ℤ◌}
use Rattle.sheet_cost.proofs.Costing.{minus_size}
use Rattle.foreign_stream.proofs.Fitting.{Bounded, bounded}
use Rattle.foreign_stream.proofs.bottom_of.Goals as goal
use Rattle.foreign_stream.proofs.bottom_of.Goals.{Start}

bound : (c : Start) → Bounded (λ y. y -ℤ pos 1) c.args.weight c.args.d
bound c = bounded _ (λ y. minus_size y (pos 1)) c.args.weight c.args.d c.ranges.d c.requires.0 c.requires.1

pub overflow_mul-result : goal.overflow_mul-result
overflow_mul-result c = (bound c).twice

pub overflow_sub-result : goal.overflow_sub-result
overflow_sub-result c = (bound c).next

pub overflow_mul-result-2 : goal.overflow_mul-result-2
overflow_mul-result-2 c = (bound c).fits

pub returns : goal.returns
returns c = (bound c).is
