-- By whether the solver found a flow.
use borrow.Author.Tests.{not-true, not-false}
use mathlib.Core.Path.{◌≡◌, refl, sym, subst}
use mathlib.Core.Bool.{Bool, false}
use mathlib.Core.List.{List}
use Rattle.num_bytes.specs.Inner.{PickT}
use Rattle.plant_def.specs.Plants.{Plant}
use Rattle.plant_def.specs.Says.{plant_of}
use Rattle.flow_def.specs.Overfull.{Overfull}
use Rattle.solve_def.specs.Promise.{Right, Solution}
use Rattle.solve_def.proofs.Theorem.{network_of}
use Rattle.solve_arcs_fill.proofs.Plants.{no_arc}
use Rattle.sheet_def.specs.declared.Outcome.{Outcome}
use Rattle.sheet_def.specs.Balances.{BalanceSays, OutcomeSays}
use Rattle.sheet_def.proofs.Opening.{right_found, right_overfull}
use Rattle.sheet_call.proofs.balance_of.Goals as goal
use Rattle.sheet_call.proofs.balance_of.Goals.{After-solve-solved, Else-not-solved}

-- An overfull set, as an outcome has it.
says_overfull : (p : Plant) (r : Outcome) (ms : List Bool) → (r.found ≡ false) × (r.marked ≡ ms) → Overfull p ms → OutcomeSays p r
says_overfull p r ms e o = subst (λ (b : Bool). PickT b (BalanceSays p r.balance) (Overfull p r.marked)) (sym e.0) (rw e.1 o)

-- What the solver hands over is right.
right : (c : After-solve-solved) → Right c.args.p c.solve-solved.result
right c =
    let p = c.args.p in
    c.solve-solved.ensures.0 p (record { accepted = c.requires; laid = c.lay.ensures }) refl
    (c.bridges_of-bridges.ensures p (record { accepted = c.requires; laid = c.lay.ensures })).grouped

-- And where a flow is found, it is a solution.
found : (c : Else-not-solved) → Solution c.args.p c.solve-solved.result
found c = right_found _ c.solve-solved.result (right c.before.before.before) (not-false c.solve-solved.result.found c.if-not-solved.false)

pub lay-requires : goal.lay-requires
lay-requires c =
    (network_of c.args.p c.requires, refl, no_arc, refl)

pub bridges_of-bridges-requires : goal.bridges_of-bridges-requires
bridges_of-bridges-requires c =
    (c.args.p, record { accepted = c.requires; laid = c.lay.ensures })

pub solve-solved-requires : goal.solve-solved-requires
solve-solved-requires c =
    let p = c.args.p in (
      p,
      record { accepted = c.requires; laid = c.lay.ensures },
      refl,
      (c.bridges_of-bridges.ensures p (record { accepted = c.requires; laid = c.lay.ensures })).grouped,
    )

pub returns-then-not-solved : goal.returns-then-not-solved
returns-then-not-solved c =
    let p = c.args.p in
    says_overfull (plant_of p) c.overfilled.result c.solve-solved.result.marked c.overfilled.ensures
    (right_overfull p c.solve-solved.result (right (goal.at.returns-then-not-solved c).After-solve-solved) (not-true c.solve-solved.result.found c.if-not-solved.true))

pub balance_by-balance-requires : goal.balance_by-balance-requires
balance_by-balance-requires c =
    let p = c.args.p in (
      p,
      record { accepted = c.requires; laid = c.lay.ensures },
      refl,
      c.bridges_of-bridges.ensures p (record { accepted = c.requires; laid = c.lay.ensures }),
      found (goal.at.balance_by-balance-requires c).Else-not-solved,
    )

pub returns : goal.returns
returns c =
    let p = c.args.p in
    c.balance_by-balance.ensures p (record { accepted = c.requires; laid = c.lay.ensures }) refl
    (c.bridges_of-bridges.ensures p (record { accepted = c.requires; laid = c.lay.ensures })) (found (goal.at.returns c).Else-not-solved)
