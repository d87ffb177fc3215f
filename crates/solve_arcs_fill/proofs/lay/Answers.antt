-- `solve_arcs_fill::lay` meets its contract: the first i streams are in the lists, and have their rows.
use mathlib.Core.Path.{◌≡◌, refl, sym, ◌∙◌}
use Prim.Native.Nat.{◌<◌}
use native.Mathlib.Omega.{arith}
use lib.ListN.{get_or}
use Rattle.plant_def.specs.Limits.{max_units, max_streams, places}
use Rattle.plant_def.specs.Plants.{no_stream}
use Rattle.plant_def.specs.Within.{WithinStream}
use Rattle.solve_arcs_fill.specs.Puts.{starts_in, ends_in}
use Rattle.solve_arcs_fill.proofs.Putting.{starts_in_lem, ends_in_lem, arc_step, count_kept, listed_counted, laid_arcs, rowed_none, rowed_more}
use Rattle.solve_arcs_fill.proofs.lay.Goals as goal
use Rattle.solve_arcs_fill.proofs.lay.Goals.{In-loop-i}

few : (c : In-loop-i) → c.loop-i.i < max_streams
few c = omega (arith, c.requires.0.within.few_streams, c.loop-i-test.true)

within : (c : In-loop-i) → WithinStream max_units (get_or c.args.streams c.loop-i.i no_stream)
within c = c.requires.0.within.each _ c.loop-i-test.true

pub overflow_cast-arcs : goal.overflow_cast-arcs
overflow_cast-arcs c = omega (arith, c.requires.0.within.few_streams)

pub loop-i-init : goal.loop-i-init
loop-i-init c =
    let l = listed_counted (starts_in c.args.streams c.args.count) (ends_in c.args.streams c.args.count) c.args.arcs.now c.args.count c.requires.1 c.requires.2 in
    (l.0, l.1, rowed_none _ _ c.requires.3)

pub bounds-streams-i : goal.bounds-streams-i
bounds-streams-i c = few c

pub list_arcs-requires : goal.list_arcs-requires
list_arcs-requires c =
    (c.loop-i.invariant.0.long, few (goal.at.list_arcs-requires c).In-loop-i, omega (arith, (within (goal.at.list_arcs-requires c).In-loop-i).from_in), omega (arith, (within (goal.at.list_arcs-requires c).In-loop-i).to_in))

pub put_row-requires : goal.put_row-requires
put_row-requires c =
    (c.loop-i.invariant.2.long, few (goal.at.put_row-requires c).In-loop-i, within (goal.at.put_row-requires c).In-loop-i)

pub loop-i-preserved : goal.loop-i-preserved
loop-i-preserved c =
    let at = c.loop-i in
    let w = within (goal.at.loop-i-preserved c).In-loop-i in
    let streams = c.args.streams in
    let u = (get_or streams at.i no_stream).from in
    let v = (get_or streams at.i no_stream).to in
    let starts = sym (starts_in_lem streams c.args.count at.i c.loop-i-test.true) in
    let ends = sym (ends_in_lem streams c.args.count at.i c.loop-i-test.true) in
    let fu : u < places = omega (arith, w.from_in) in
    let fv : v < places = omega (arith, w.to_in) in
    let r = c.put_row.ensures in
    rw (c.list_arcs.ensures, r.0) (
      arc_step at.i u v _ _ at.arcs (few (goal.at.loop-i-preserved c).In-loop-i) fu fv at.invariant.0.long _ _ starts ends refl refl at.invariant.0,
      count_kept at.i u v _ _ at.arcs (few (goal.at.loop-i-preserved c).In-loop-i) fu fv at.invariant.0.long ∙ at.invariant.1,
      rowed_more at.i _ _ _ _ at.rows (few (goal.at.loop-i-preserved c).In-loop-i) at.invariant.2.long streams refl refl (omega (arith, r.1)) refl refl at.invariant.2,
    )

pub returns : goal.returns
returns c =
    let at = c.loop-i in
    let e : at.i ≡ c.args.count = omega arith in
    record { along = laid_arcs _ c.args.count c.requires.0 _ (rw e at at.invariant.0) at.invariant.1; rowed = rw e at at.invariant.2 }
