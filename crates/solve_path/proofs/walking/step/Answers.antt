-- `solve_path::walking::step` meets its contract: by whether there is a nearest place.
use Prim.Native.Nat.{◌<◌}
use native.Mathlib.Omega.{arith}
use lib.ListN.{length-set}
use Rattle.plant_def.specs.Limits.{places}
use Rattle.flow_def.proofs.Passed.{shifted}
use Rattle.solve_path.proofs.Pacing.{paced_none, paced_some}
use Rattle.solve_path.proofs.walking.step.Goals as goal

pub nearest-e-requires : goal.nearest-e-requires
nearest-e-requires c =
    let v = c.requires.4 in
    (c.relax-fringe.ensures.0, (v.0, v.1, (c.relax-fringe.ensures.1 v.0 v.1 v.2).coded))

pub returns-then-e-eq-PLACES : goal.returns-then-e-eq-PLACES
returns-then-e-eq-PLACES c = (
  c.relax-fringe.ensures.0,
  λ limit vs l h. let w = c.relax-fringe.ensures.1 limit vs h in paced_none _ _ _ _ _ _ _ _ _ limit vs w _ (c.nearest-e.ensures.1 limit vs w.coded) c.if-e-eq-PLACES.true,
  omega arith,
)

pub returns : goal.returns
returns c =
    let one : c.nearest-e.result < places = omega (arith, c.nearest-e.ensures.0, c.if-e-eq-PLACES.false) in (
      simp length-set c.relax-fringe.ensures.0,
      λ limit vs l h. let w = c.relax-fringe.ensures.1 limit vs h in
          paced_some _ _ _ _ _ _ _ _ _ limit vs w _ (c.nearest-e.ensures.1 limit vs w.coded) l c.relax-fringe.ensures.0 c.if-e-eq-PLACES.false _ (shifted _ one),
      c.nearest-e.ensures.0,
    )
