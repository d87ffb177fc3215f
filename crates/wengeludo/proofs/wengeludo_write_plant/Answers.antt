-- The writer's promise of the plant that was handed over.
use mathlib.Core.Path.{◌≡◌, ap, ap₂, ◌∙◌, subst}
use Rattle.std.specs.Prelude.{Ok, Err}
use Rattle.plant_def.specs.declared.Plant as Arrays
use Rattle.plant_def.specs.Limits.{max_streams}
use Rattle.plant_def.specs.Says.{padded, WriteSays}
use Rattle.plant_def.specs.Views.{done_as}
use Rattle.plant_parts.specs.Parts.{Slices, parts_at, least, reach, listed_to}
use Rattle.plant_parts.proofs.Gather.{reached, all_gathered}
use Rattle.plant_parts.proofs.Counts.{any_count}
use Rattle.wengeludo.proofs.wengeludo_write_plant.Goals as goal
use Rattle.wengeludo.proofs.wengeludo_write_plant.Goals.{After-ranges_gathered-streams, After-reached-n}

abbrev slices : After-reached-n → Slices
slices c =
    let a = c.args in
    record {
      from = a.from.now;
      to = a.to.now;
      metered = a.metered.now;
      weight = a.weight.now;
      reading = a.reading.now;
      ranged = a.ranged.now;
      low = a.low.now;
      high = a.high.now;
    }

reach_is : (c : After-reached-n) → c.reached-n.result ≡ reach (slices c)
reach_is c = c.reached-n.ensures ∙ ap (least max_streams) (ap₂ least c.meters_reach.ensures c.ranges_reach.ensures)

pub meters_gathered-meters-requires : goal.meters_gathered-meters-requires
meters_gathered-meters-requires c =
    let r = reached (slices c) _ (reach_is c) in
    (r.room, r.from_there, r.to_there, r.metered_there, r.weight_there, r.reading_there)

pub ranges_gathered-streams-requires : goal.ranges_gathered-streams-requires
ranges_gathered-streams-requires c =
    let r = reached (slices (goal.at.ranges_gathered-streams-requires c).After-reached-n) _ (reach_is (goal.at.ranges_gathered-streams-requires c).After-reached-n) in
    (r.room, r.ranged_there, r.low_there, r.high_there)

streams_are : (c : After-ranges_gathered-streams) → let p = slices (record { before = c.before.before.before; type_inv = record { file = c.type_inv.file; ranged = c.type_inv.ranged; weight = c.type_inv.weight; metered = c.type_inv.metered; to = c.type_inv.to; from = c.type_inv.from } }) in c.ranges_gathered-streams.result ≡ padded max_streams (listed_to (parts_at p) (reach p))
streams_are c = c.ranges_gathered-streams.ensures ∙ all_gathered (slices (record { before = c.before.before.before; type_inv = record { file = c.type_inv.file; ranged = c.type_inv.ranged; weight = c.type_inv.weight; metered = c.type_inv.metered; to = c.type_inv.to; from = c.type_inv.from } })) _ _ (reach_is (record { before = c.before.before.before; type_inv = record { file = c.type_inv.file; ranged = c.type_inv.ranged; weight = c.type_inv.weight; metered = c.type_inv.metered; to = c.type_inv.to; from = c.type_inv.from } })) c.meters_gathered-meters.ensures

pub returns-in-Ok : goal.returns-in-Ok
returns-in-Ok c =
    let a = c.args in
    let p = slices (goal.at.returns-in-Ok c).After-reached-n in
    any_count a.units a.file.now _ _ p a.count
    (subst (λ (q : Arrays.Plant). WriteSays q a.file.now c.write_plant.new.file (done_as (Ok c.in-Ok.size)))
    (λ i. record { units = a.units; count = c.count_byte.ensures i; streams = streams_are (goal.at.returns-in-Ok c).After-ranges_gathered-streams i })
    c.in-Ok.ensures)

pub returns-in-Err : goal.returns-in-Err
returns-in-Err c =
    let a = c.args in
    let p = slices (goal.at.returns-in-Err c).After-reached-n in
    rw c.number.ensures (any_count a.units a.file.now _ _ p a.count
    (subst (λ (q : Arrays.Plant). WriteSays q a.file.now c.write_plant.new.file (done_as (Err c.in-Err.e)))
    (λ i. record { units = a.units; count = c.count_byte.ensures i; streams = streams_are (goal.at.returns-in-Err c).After-ranges_gathered-streams i })
    c.in-Err.ensures))
