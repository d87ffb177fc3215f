-- `flow_classes::degrees_of` meets its contract, by the laws of degrees by labels.
use mathlib.Core.Path.{◌≡◌, sym, ◌∙◌}
use Prim.Native.Nat.{◌-◌}
use native.Mathlib.Omega.{arith}
use Rattle.plant_def.specs.declared.Plant.{Plant}
use Rattle.plant_def.specs.Says.{plant_of}
use Rattle.flow_def.specs.Classes.{degrees}
use Rattle.flow_def.specs.Calls.{Grouped}
use Rattle.flow_def.specs.Chains.{every_stream, unmetered_only}
use Rattle.flow_def.specs.Labels.{labels_of, own_labels}
use Rattle.flow_def.proofs.Nets.{inside_of}
use Rattle.flow_def.proofs.Grouping.{labels_are}
use Rattle.flow_def.proofs.Degrees.{pieces_le, degrees_own, degrees_most}
use Rattle.solve_arcs_fill.specs.Plants.{LaidOf}
use Rattle.flow_classes.proofs.degrees_of.Goals as goal
use Rattle.flow_classes.proofs.degrees_of.Goals.{After-own_labels-pieces}

pub own_labels-count-requires : goal.own_labels-count-requires
own_labels-count-requires c = let o = c.requires in omega (arith, o.2, o.1.accepted.within.few_units)

pub group-all-requires : goal.group-all-requires
group-all-requires c = let o = c.requires in (o.0, o.1)

pub own_labels-pieces-requires : goal.own_labels-pieces-requires
own_labels-pieces-requires c = let o = c.requires in omega (arith, o.2, o.1.accepted.within.few_units)

-- The groups and the pieces of a plant that was laid, by the labels of each.
module _ (c : After-own_labels-pieces) (p : Plant) (w : LaidOf p c.args.arcs.now c.args.rows.now) (e : p.units ≡ c.args.units) where
  groups_are : Grouped p c.args.labels → c.own_labels-count.result ≡ own_labels (labels_of unmetered_only (plant_of p)) p.units
  groups_are g = c.own_labels-count.ensures ∙ (λ i. own_labels (labels_are p w.accepted unmetered_only _ g i) (sym e i))

  pieces_are : c.own_labels-pieces.result ≡ own_labels (labels_of every_stream (plant_of p)) p.units
  pieces_are = c.own_labels-pieces.ensures ∙ (λ i. own_labels (labels_are p w.accepted every_stream _ (c.group-all.ensures p w) i) (sym e i))

  degrees_are : Grouped p c.args.labels → c.own_labels-count.result - c.own_labels-pieces.result ≡ degrees (plant_of p)
  degrees_are g = (λ i. groups_are g i - pieces_are i) ∙ sym (degrees_own (plant_of p) w.accepted.within.few_units (inside_of p w.accepted))

pub overflow_sub-result : goal.overflow_sub-result
overflow_sub-result c =
    let o = c.requires in
    let a = o.1.accepted in
    rw (pieces_are (goal.at.overflow_sub-result c).After-own_labels-pieces o.0 o.1 o.2, groups_are (goal.at.overflow_sub-result c).After-own_labels-pieces o.0 o.1 o.2 o.3) (pieces_le (plant_of o.0) a.within.few_units (inside_of o.0 a))

pub returns : goal.returns
returns c =
    let o = c.requires in
    let a = o.1.accepted in
    (λ p w e g. degrees_are (goal.at.returns c).After-own_labels-pieces p w e g, rw (degrees_are (goal.at.returns c).After-own_labels-pieces o.0 o.1 o.2 o.3) (degrees_most (plant_of o.0) a.within.few_units (inside_of o.0 a)))
