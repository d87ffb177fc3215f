-- A root that is safe; one that is too great, a square that is too great for the weight, and a product that fits.
use native.Mathlib.Omega.{arith}
use native.Mathlib.Nat.{mul-le-mul}
use Prim.Native.Nat.{◌*◌, ◌≤◌}
use Rattle.sheet_cost.proofs.Costing.{safe_fits, safe_is, root_above, square_above, square_fits, square_below}
use Rattle.sheet_cost.proofs.weighed_square.Goals as goal
use Rattle.sheet_cost.proofs.weighed_square.Goals.{Else-d-gt-TOP_ROOT, Else-d-le-SAFE_ROOT}

pub overflow_mul-result : goal.overflow_mul-result
overflow_mul-result c = record { fits = omega (arith, mul-le-mul c.if-d-le-SAFE_ROOT.true c.if-d-le-SAFE_ROOT.true) }

pub overflow_mul-result-then-d-le-SAFE_ROOT : goal.overflow_mul-result-then-d-le-SAFE_ROOT
overflow_mul-result-then-d-le-SAFE_ROOT c = record { fits = omega (arith, safe_fits c.args.weight c.args.d c.requires.0 c.if-d-le-SAFE_ROOT.true) }

pub returns-then-d-le-SAFE_ROOT : goal.returns-then-d-le-SAFE_ROOT
returns-then-d-le-SAFE_ROOT c = safe_is c.args.weight c.args.d c.requires.0 c.if-d-le-SAFE_ROOT.true

-- A stream whose root is not safe has a weight.
weighed : (c : Else-d-le-SAFE_ROOT) → 1 ≤ c.args.weight
weighed c = c.requires.1 (omega (arith, c.if-d-le-SAFE_ROOT.false))

pub returns-then-d-gt-TOP_ROOT : goal.returns-then-d-gt-TOP_ROOT
returns-then-d-gt-TOP_ROOT c = root_above c.args.weight c.args.d (weighed (goal.at.returns-then-d-gt-TOP_ROOT c).Else-d-le-SAFE_ROOT) (omega (arith, c.if-d-gt-TOP_ROOT.true))

-- A root that is not too great has a square in 64 bits.
root_squared : (c : Else-d-gt-TOP_ROOT) → c.args.d * c.args.d ≤ 4294967295 * 4294967295
root_squared c = mul-le-mul c.if-d-gt-TOP_ROOT.false c.if-d-gt-TOP_ROOT.false

pub overflow_mul-square : goal.overflow_mul-square
overflow_mul-square c = record { fits = omega (arith, root_squared c) }

pub nonzero_div-weight : goal.nonzero_div-weight
nonzero_div-weight c = let l = weighed (goal.at.nonzero_div-weight c).Else-d-le-SAFE_ROOT in omega arith

pub returns-then-weight-square : goal.returns-then-weight-square
returns-then-weight-square c = square_above c.args.weight c.args.d (weighed (goal.at.returns-then-weight-square c).Else-d-le-SAFE_ROOT) c.if-weight-square.true

pub overflow_mul-result-2 : goal.overflow_mul-result-2
overflow_mul-result-2 c =
    record { fits = omega (arith, square_fits c.args.weight c.args.d (weighed (goal.at.overflow_mul-result-2 c).Else-d-le-SAFE_ROOT) c.if-weight-square.false) }

pub returns : goal.returns
returns c = square_below c.args.weight c.args.d (weighed (goal.at.returns c).Else-d-le-SAFE_ROOT) c.if-weight-square.false
