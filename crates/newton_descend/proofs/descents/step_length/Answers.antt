-- `newton_descend::descents::step_length` meets its contract: the length that is found is that which so many trials find.
use Rattle.std.proofs.Common.{◌≡◌, ◌+◌, ◌-◌, refl, ◌∙◌, arith}
use lib.Ieee.{Float}
use Rattle.newton_descend.specs.Descents.{slope_at, tried, length_by, trials, step_length}
use Rattle.newton_descend.proofs.Trials.{length_last, length_found, length_more, tried_is, step_whole, step_tried}
use Rattle.newton_descend.proofs.descents.step_length.Goals as goal
use Rattle.newton_descend.proofs.descents.step_length.Goals.{After-narrowed-b, At-loop-trial, Start}

-- The slope by the length of the step.
abbrev slopes : Start → Float → Float
slopes st = let a = st.args in slope_at a.streams.ends.now a.streams.meters.now a.streams.count a.potentials.now a.way.now a.n

-- The bracket after a trial.
key : (c : After-narrowed-b) → c.narrowed-b.result ≡ tried (slopes c.before.before.before.before.before.before.before) c.loop-trial.b c.loop-trial.trial
key c =
    tried_is (slopes c.before.before.before.before.before.before.before) c.args.first c.loop-trial.b _ c.loop-trial.trial _ _ c.between-t.ensures c.slope.ensures c.narrowed-b.ensures

-- A length that so many trials find is that of the step.
ended : (c : At-loop-trial) (x : Float) → x ≡ length_by (slopes c.before.before.before) c.args.first (trials - c.loop-trial.trial) c.loop-trial.b c.loop-trial.trial
    → x ≡ step_length (slopes c.before.before.before) c.args.first
ended c x e =
    step_tried (slopes c.before.before.before) c.args.first c.slope-whole.result x c.slope-whole.ensures c.if-not-whole.false-raw (e ∙ c.loop-trial.invariant)

pub returns-then-not-whole : goal.returns-then-not-whole
returns-then-not-whole c = step_whole (slopes (goal.at.returns-then-not-whole c).Start) c.args.first c.slope-whole.result c.slope-whole.ensures c.if-not-whole.true-raw

pub loop-trial-init : goal.loop-trial-init
loop-trial-init c = refl

pub returns-then-b-first : goal.returns-then-b-first
returns-then-b-first c =
    let l = c.loop-trial-test.true in
    let f = c.args.first in
    ended (goal.at.returns-then-b-first c).At-loop-trial _ (length_found (slopes (goal.at.returns-then-b-first c).Start) f (trials - c.loop-trial.trial) c.loop-trial.b _ c.loop-trial.trial (omega (arith, l)) (key (goal.at.returns-then-b-first c).After-narrowed-b) c.if-b-first.true)

pub loop-trial-preserved : goal.loop-trial-preserved
loop-trial-preserved c =
    let l = c.loop-trial-test.true in
    let z : trials - (c.loop-trial.trial + 1) ≡ trials - c.loop-trial.trial - 1 = omega arith in
    let f = c.args.first in
    let e = length_more (slopes (goal.at.loop-trial-preserved c).Start) f (trials - c.loop-trial.trial) c.loop-trial.b _ c.loop-trial.trial (omega (arith, l)) (key (goal.at.loop-trial-preserved c).After-narrowed-b) c.if-b-first.false in
    rw z e ∙ c.loop-trial.invariant

pub returns : goal.returns
returns c =
    let z : trials - c.loop-trial.trial ≡ 0 = omega arith in
    ended (goal.at.returns c).At-loop-trial _ (length_last (slopes (goal.at.returns c).Start) c.args.first (trials - c.loop-trial.trial) c.loop-trial.b c.loop-trial.trial z)
