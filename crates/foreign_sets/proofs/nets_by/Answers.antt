-- After i turns the nets are those by the first i streams.
use mathlib.Core.Path.{sym, subst}
use lib.IntN.{ℤ, pos}
use Prim.Native.Nat.{◌<◌}
use native.Mathlib.Omega.{arith}
use lib.ListN.{get_or, length-replicate}
use mir.Syntax.{w64}
use mir.Val.{SFits}
use mir.ValLaws.{to_z-of_z}
use Rattle.num_bytes.proofs.Filled.{blank_at}
use Rattle.plant_def.specs.Limits.{places, max_units}
use Rattle.plant_def.specs.Plants.{no_stream}
use Rattle.plant_def.specs.Within.{WithinStream}
use Rattle.plant_def.proofs.Arrayed.{stream_within}
use Rattle.foreign_def.specs.Test.{Roomy}
use Rattle.foreign_sets.proofs.Carrying as C
use borrow.Author.Rules.{rules}
use Rattle.foreign_sets.proofs.nets_by.Goals as goal
use Rattle.foreign_sets.proofs.nets_by.Goals.{In-loop-i}

pub loop-i-init : goal.loop-i-init
loop-i-init c = λ a. C.tallied_none c.args.p a c.args.labels c.args.flows _ (length-replicate {A = ℤ} places (pos 0)) (λ v l. blank_at (pos 0) places v)

-- The stream is listed.
listed : (c : In-loop-i) → c.loop-i.i < c.args.p.count
listed c = omega arith

within_here : (c : In-loop-i) → WithinStream max_units (get_or c.args.p.streams c.loop-i.i no_stream)
within_here c = stream_within c.args.p c.requires.0 c.loop-i.i (listed c)

pub bounds-labels-v : goal.bounds-labels-v
bounds-labels-v c = omega (arith, (within_here (goal.at.bounds-labels-v c).In-loop-i).to_in)

pub bounds-labels-u : goal.bounds-labels-u
bounds-labels-u c = omega (arith, (within_here (goal.at.bounds-labels-u c).In-loop-i).from_in)

pub carry-requires : goal.carry-requires
carry-requires c =
    let at = c.loop-i in
    let f : SFits w64 (get_or c.args.flows c.loop-i.i (pos 0)) = search rules in
    let t = at.invariant c.requires.0 in (
      t.long,
      c.requires.2 _ (omega (arith, (within_here (goal.at.carry-requires c).In-loop-i).to_in)),
      c.requires.2 _ (omega (arith, (within_here (goal.at.carry-requires c).In-loop-i).from_in)),
      subst (λ (z : ℤ). Roomy z at.nets) (sym (to_z-of_z w64 _ f))
          (C.roomy c.args.p c.requires.0 c.args.labels c.args.flows c.requires.1 at.nets at.i (listed (goal.at.carry-requires c).In-loop-i) t),
    )

pub loop-i-preserved : goal.loop-i-preserved
loop-i-preserved c =
    let at = c.loop-i in
    let f : SFits w64 (get_or c.args.flows c.loop-i.i (pos 0)) =
    search rules in
    λ a. C.tallied_more c.args.p a c.args.labels c.args.flows c.requires.1 at.nets at.i (listed (goal.at.loop-i-preserved c).In-loop-i) (at.invariant a) _
    _ (to_z-of_z w64 _ f) c.carry.ensures

pub returns : goal.returns
returns c =
    let at = c.loop-i in
    C.tallied_all c.args.p c.requires.0 c.args.labels c.args.flows at.nets at.i (omega arith) (at.invariant c.requires.0)
