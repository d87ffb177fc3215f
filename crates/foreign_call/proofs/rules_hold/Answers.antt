-- Rule after rule; what the tests before it say is what the next one needs.
use mathlib.Core.Path.{◌≡◌, refl, sym, ◌∙◌}
use mathlib.Core.Bool.{true}
use Rattle.solve_def.proofs.Theorem.{network_of}
use Rattle.solve_arcs_fill.proofs.Plants.{no_arc}
use Rattle.sheet_def.specs.Calls.{AllSmall}
use Rattle.foreign_def.specs.Test.{numbers_fit}
use Rattle.foreign_call.proofs.Ruling as R
use Rattle.foreign_call.proofs.rules_hold.Goals as goal
use Rattle.foreign_call.proofs.rules_hold.Goals.{After-shown_flows-flows, Else-not-numbers_fit, Else-not-records_fit}

shown : (c : After-shown_flows-flows) → R.Shown c.args.p c.args.kept c.classes_of-classes.result c.shown_flows-flows.result
shown c = record {
  accepted = c.requires.0;
  long = c.requires.2;
  same = c.if-kept-p.false;
  ours = c.classes_of-classes.ensures;
  are = c.shown_flows-flows.ensures;
}

numbered : (c : Else-not-numbers_fit) → numbers_fit c.args.p.units c.args.numbers.now ≡ true
numbered c = sym c.numbers_fit.ensures ∙ c.if-not-numbers_fit.false

recorded : (c : Else-not-records_fit)
    → R.records_in c.args.p c.args.kept c.classes_of-classes.result c.shown_flows-flows.result ≡ true
recorded c = sym c.records_fit.ensures ∙ c.if-not-records_fit.false

small : (c : Else-not-records_fit) → AllSmall c.shown_flows-flows.result
small c = R.records_small c.args.p c.args.kept c.args.numbers.now (shown c.before.before.before) (recorded c)

pub returns-then-not-numbers_fit : goal.returns-then-not-numbers_fit
returns-then-not-numbers_fit c =
    R.wrong_numbers c.args.p c.args.kept c.args.numbers.now (sym c.numbers_fit.ensures ∙ c.if-not-numbers_fit.true)

pub returns-then-kept-p : goal.returns-then-kept-p
returns-then-kept-p c =
    R.wrong_count c.args.p c.args.kept c.args.numbers.now c.requires.0 c.requires.1 c.requires.2 c.if-kept-p.true

pub lay-requires : goal.lay-requires
lay-requires c = (network_of c.args.p c.requires.0, refl, no_arc, refl)

pub bridges_of-bridges-requires : goal.bridges_of-bridges-requires
bridges_of-bridges-requires c =
    (c.args.p, record { accepted = c.requires.0; laid = c.lay.ensures })

pub classes_of-classes-requires : goal.classes_of-classes-requires
classes_of-classes-requires c =
    (c.requires.0, c.bridges_of-bridges.ensures c.args.p (record { accepted = c.requires.0; laid = c.lay.ensures }))

pub returns-then-not-records_fit : goal.returns-then-not-records_fit
returns-then-not-records_fit c =
    R.wrong_record c.args.p c.args.kept c.args.numbers.now (shown (goal.at.returns-then-not-records_fit c).After-shown_flows-flows) (sym c.records_fit.ensures ∙ c.if-not-records_fit.true)

pub flows_fit-requires : goal.flows_fit-requires
flows_fit-requires c = (c.requires.0, small c, numbered (goal.at.flows_fit-requires c).Else-not-numbers_fit)

pub returns-then-not-flows_fit : goal.returns-then-not-flows_fit
returns-then-not-flows_fit c =
    R.wrong_flow c.args.p c.args.kept c.args.numbers.now (shown (goal.at.returns-then-not-flows_fit c).After-shown_flows-flows) (sym c.flows_fit.ensures ∙ c.if-not-flows_fit.true)

pub nets_fit-requires : goal.nets_fit-requires
nets_fit-requires c = (c.requires.0, c.classes_of-classes.ensures, small (goal.at.nets_fit-requires c).Else-not-records_fit)

pub returns-then-not-nets_fit : goal.returns-then-not-nets_fit
returns-then-not-nets_fit c =
    R.wrong_net c.args.p c.args.kept c.args.numbers.now (shown (goal.at.returns-then-not-nets_fit c).After-shown_flows-flows) (sym c.nets_fit.ensures ∙ c.if-not-nets_fit.true)

pub total_fits-requires : goal.total_fits-requires
total_fits-requires c =
    let grouped = (c.bridges_of-bridges.ensures c.args.p (record { accepted = c.requires.0; laid = c.lay.ensures })).grouped in
    (record { accepted = c.requires.0; laid = c.lay.ensures }, grouped, c.classes_of-classes.ensures, small (goal.at.total_fits-requires c).Else-not-records_fit)

pub returns : goal.returns
returns c =
    c.total_fits.ensures
    ∙ R.by_total c.args.p c.args.kept c.args.numbers.now (shown (goal.at.returns c).After-shown_flows-flows) (numbered (goal.at.returns c).Else-not-numbers_fit) (recorded (goal.at.returns c).Else-not-records_fit)
    (sym c.flows_fit.ensures ∙ c.if-not-flows_fit.false) (sym c.nets_fit.ensures ∙ c.if-not-nets_fit.false)
