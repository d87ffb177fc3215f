-- By the four tests in their order.
use mathlib.Core.Path.{◌≡◌, sym, ◌∙◌, ap}
use mathlib.Core.Bool.{true}
use Prim.Native.Nat.{ℕ, suc}
use native.Mathlib.Numerals.{add-one}
use Rattle.certify_def.specs.Number.{max_wide_flow, max_wide_number}
use Rattle.certify_def.specs.Test.{wide_at, all_small}
use Rattle.certify_call.proofs.Calling as C
use Rattle.certify_call.proofs.rules_hold.Goals as goal
use Rattle.certify_call.proofs.rules_hold.Goals.{After-all_small, After-all_small-2, Else-not-all_small, Else-not-all_small-2}

-- What the first test says, and the second.
flows_told : (c : After-all_small) → let a = c.args in c.all_small.result ≡ all_small a.count a.flow.now max_wide_flow
flows_told c = c.all_small.ensures

numbers_told : (c : After-all_small-2) → let a = c.args in c.all_small-2.result ≡ all_small (suc a.units) a.numbers.now max_wide_number
numbers_told c =
    let a = c.args in
    c.all_small-2.ensures ∙ ap (λ (m : ℕ). all_small m a.numbers.now max_wide_number) (add-one a.units)

flows_small : (c : Else-not-all_small) → let a = c.args in all_small a.count a.flow.now max_wide_flow ≡ true
flows_small c = sym (flows_told c.before) ∙ c.if-not-all_small.false

numbers_small : (c : Else-not-all_small-2) → let a = c.args in all_small (suc a.units) a.numbers.now max_wide_number ≡ true
numbers_small c = sym (numbers_told c.before) ∙ c.if-not-all_small-2.false

pub returns-then-not-all_small : goal.returns-then-not-all_small
returns-then-not-all_small c =
    let a = c.args in
    C.flows_fail a.units a.count (wide_at a.streams) a.flow.now a.numbers.now (sym (flows_told (goal.at.returns-then-not-all_small c).After-all_small) ∙ c.if-not-all_small.true)

pub returns-then-not-all_small-2 : goal.returns-then-not-all_small-2
returns-then-not-all_small-2 c =
    let a = c.args in
    C.numbers_fail a.units a.count (wide_at a.streams) a.flow.now a.numbers.now (flows_small (goal.at.returns-then-not-all_small-2 c).Else-not-all_small) (sym (numbers_told (goal.at.returns-then-not-all_small-2 c).After-all_small-2) ∙ c.if-not-all_small-2.true)

pub nets_fit-requires : goal.nets_fit-requires
nets_fit-requires c =
    let pre = c.requires in
    (pre.1, pre.2, flows_small (goal.at.nets_fit-requires c).Else-not-all_small)

pub returns-then-not-nets_fit : goal.returns-then-not-nets_fit
returns-then-not-nets_fit c =
    let a = c.args in
    C.nets_fail a.units a.count (wide_at a.streams) a.flow.now a.numbers.now (flows_small (goal.at.returns-then-not-nets_fit c).Else-not-all_small) (numbers_small (goal.at.returns-then-not-nets_fit c).Else-not-all_small-2)
    (sym c.nets_fit.ensures ∙ c.if-not-nets_fit.true)

pub flows_fit-requires : goal.flows_fit-requires
flows_fit-requires c =
    let pre = c.requires in (
      c.args.units,
      record {
        few_units = pre.0;
        few_streams = pre.1;
        flow_long = pre.2;
        numbers_long = pre.3;
        each = pre.4;
        flow_small = flows_small (goal.at.flows_fit-requires c).Else-not-all_small;
        numbers_small = numbers_small (goal.at.flows_fit-requires c).Else-not-all_small-2;
      },
    )

pub returns : goal.returns
returns c =
    let a = c.args in
    c.flows_fit.ensures
    ∙ C.bounds_decide a.units a.count (wide_at a.streams) a.flow.now a.numbers.now (flows_small (goal.at.returns c).Else-not-all_small) (numbers_small (goal.at.returns c).Else-not-all_small-2)
    (sym c.nets_fit.ensures ∙ c.if-not-nets_fit.false)
