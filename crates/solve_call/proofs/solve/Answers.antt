-- `solve_call::solve` meets its contract: by the set that the start guesses, or from the start to the end.
use mathlib.Core.Path.{refl, ◌∙◌}
use native.Mathlib.Omega.{arith}
use Rattle.plant_def.specs.declared.Plant.{Plant}
use Rattle.solve_def.proofs.Theorem.{network_of}
use Rattle.solve_arcs.specs.ArcNeeds.{Laying}
use Rattle.solve_arcs_fill.specs.Plants.{LaidOf}
use Rattle.newton_descend.specs.Guesses.{marks_of}
use Rattle.solve_call.proofs.Solving.{guess_right}
use Rattle.solve_call.proofs.solve.Goals as goal
use Rattle.solve_call.proofs.solve.Goals.{Start}

-- Streams that the arcs and the rows are of.
abbrev laying : (st : Start) (p : Plant) → LaidOf p st.args.arcs.now st.args.rows.now → Laying st.args.arcs.now st.args.rows.now
laying st p w = record { streams = p.streams; n = p.count; network = network_of p w.accepted; laid = w.laid }

pub start-guess-requires : goal.start-guess-requires
start-guess-requires c = (c.requires, refl)

pub is_overfull-requires : goal.is_overfull-requires
is_overfull-requires c = laying (goal.at.is_overfull-requires c).Start c.requires.0 c.requires.1

pub returns-then-is_overfull : goal.returns-then-is_overfull
returns-then-is_overfull c = (
  λ p w e g. guess_right p w.accepted (marks_of c.start-guess.result) _ (rw e (c.is_overfull.ensures (laying (goal.at.returns-then-is_overfull c).Start p w) c.if-is_overfull.true))
      c.refused.ensures.0 (rw e (c.refused.ensures.1 ∙ c.marks_of.ensures)),
  rw c.refused.ensures.2 (omega arith),
)

pub solve_at-requires : goal.solve_at-requires
solve_at-requires c =
    let o = c.requires in
    (o.0, o.1, o.2, c.start-guess.ensures o.0 o.1 o.3)

pub returns : goal.returns
returns c =
    let o = c.requires in (
      λ p w e g. (c.solve_at.ensures p w e (c.start-guess.ensures p w g)).0,
      (c.solve_at.ensures o.0 o.1 o.2 (c.start-guess.ensures o.0 o.1 o.3)).1.few,
    )
