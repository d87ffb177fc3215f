-- What was read, and what the eight slices then hold.
use mathlib.Core.Path.{◌≡◌, refl, ap, ap₂, ◌∙◌}
use Rattle.plant_def.specs.Limits.{max_streams}
use Rattle.plant_def.specs.Results.{Read}
use Rattle.plant_def.specs.Says.{read_of}
use Rattle.plant_parts.specs.Parts.{Slices, least, reach}
use Rattle.plant_parts.proofs.Gather.{Reached}
use Rattle.plant_lent.specs.Inner.{read_lent}
use Rattle.plant_lent.proofs.Handing.{room_lent, found_lent}
use Rattle.wengeludo.proofs.wengeludo_read_plant.Goals as goal
use Rattle.wengeludo.proofs.wengeludo_read_plant.Goals.{After-reached-reach}

-- The eight slices, as they were lent.
abbrev slices : After-reached-reach → Slices
slices c =
    let a = c.args in
    record {
      from = a.from.now;
      to = a.to.now;
      metered = a.metered.now;
      weight = a.weight.now;
      reading = a.reading.now;
      ranged = a.ranged.now;
      low = a.low.now;
      high = a.high.now;
    }

reach_is : (c : After-reached-reach) → c.reached-reach.result ≡ reach (slices c)
reach_is c =
    c.reached-reach.ensures ∙ ap (least max_streams) (ap₂ least c.meters_reach.ensures c.ranges_reach.ensures)

-- There is room for what was read.
room : (c : After-reached-reach) (y : Read) → y ≡ read_of (read_lent c.args.file.now c.reached-reach.result) → Reached (slices c) y.plant.count
room c y e = room_lent c.args.file.now (slices c) _ y (reach_is c) e

pub returns-in-Err : goal.returns-in-Err
returns-in-Err c =
    let at = (goal.at.returns-in-Err c).After-reached-reach in
    rw c.number-number.ensures (found_lent c.args.file.now (slices at) _ _ _ (reach_is at) c.in-Err.ensures refl)

pub put_ends-requires : goal.put_ends-requires
put_ends-requires c = let q = room (goal.at.put_ends-requires c).After-reached-reach _ c.in-Ok.ensures in (q.room, q.from_there, q.to_there)

pub put_meters-requires : goal.put_meters-requires
put_meters-requires c = let q = room (goal.at.put_meters-requires c).After-reached-reach _ c.in-Ok.ensures in (q.room, q.metered_there, q.weight_there, q.reading_there)

pub put_ranges-requires : goal.put_ranges-requires
put_ranges-requires c = let q = room (goal.at.put_ranges-requires c).After-reached-reach _ c.in-Ok.ensures in (q.room, q.ranged_there, q.low_there, q.high_there)

pub returns : goal.returns
returns c =
    let at = (goal.at.returns c).After-reached-reach in
    let ends = c.put_ends.ensures in
    let meters = c.put_meters.ensures in
    let ranges = c.put_ranges.ensures in
    found_lent c.args.file.now (slices at) _ _ _ (reach_is at) c.in-Ok.ensures
    (λ i. record {
      from = ends.0 i;
      to = ends.1 i;
      metered = meters.0 i;
      weight = meters.1 i;
      reading = meters.2 i;
      ranged = ranges.0 i;
      low = ranges.1 i;
      high = ranges.2 i;
    })
