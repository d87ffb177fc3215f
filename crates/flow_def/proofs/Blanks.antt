-- Nothing is withheld exactly where the unmetered streams have no loop; one pass decides it.
use mathlib.Core.Path.{◌≡◌, refl}
use mathlib.Core.Logic.{◌↔◌}
use Prim.Native.Nat.{ℕ, ◌<◌}
use borrow.Author.Tests.{not-true}
use lib.ListN.{length}
use Rattle.num_bytes.proofs.Tests.{by_cases}
use Rattle.plant_def.specs.Limits.{max_units}
use Rattle.plant_def.specs.Plants.{Plant}
use Rattle.plant_def.specs.Within.{Within}
use Rattle.flow_def.specs.declared.Class.TheVariants.{Withheld}
use Rattle.flow_def.specs.Flows.{stream_at}
use Rattle.flow_def.specs.Chains.{unmetered_only}
use Rattle.flow_def.specs.Classes.{unmetered_but, on_loop, class_of}
use Rattle.flow_def.specs.Shown.{Unmetered}
use Rattle.flow_def.proofs.Nets.{inside}
use Rattle.flow_def.proofs.Reach.{joined→chain, chain→joined}
use Rattle.flow_def.proofs.Given.{class_means}
use Rattle.flow_def.proofs.Withheld.{number_of, blank_of}
use Rattle.flow_def.specs.Withheld.{NoneWithheld}
use Rattle.flow_def.specs.Loops.{AllJoin}
use Rattle.flow_def.proofs.Ranks.{Free, free_joins, joins_free}

-- No stream has the class Withheld.
abbrev pub NoneOfClass : Plant → Type 0
NoneOfClass p = (i : ℕ) → i < length p.streams → class_of p i ≡ Withheld → ⊥

module _ (p : Plant) (w : Within p) where
  -- Nothing withheld, said of flows: no stream has the class,
  pub none→classes : NoneWithheld p → NoneOfClass p
  none→classes n i l e =
      let u : Unmetered p i = record { listed = l; unmetered = (class_means p i Withheld e).0 } in
      let d = (blank_of p w i u).0 e in
      d.3 (n i u d.0 d.1 d.2)

  -- and the other way.
  pub classes→none : NoneOfClass p → NoneWithheld p
  classes→none n i u =
      (number_of p w i u).0
      (by_cases (on_loop p i) (λ o. absurd (n i u.listed (rw (u.unmetered, o)))) (λ o. rw (u.unmetered, o)))

  -- Nothing withheld: the unmetered streams have no loop,
  pub none→free : NoneWithheld p → Free unmetered_only p.streams
  none→free n i l t c =
      none→classes n i l (rw (not-true (stream_at p.streams i).metered t, chain→joined (unmetered_but i) p (inside p w) c))

  -- and the other way.
  pub free→none : Free unmetered_only p.streams → NoneWithheld p
  free→none f = classes→none (λ i l e.
      let c = class_means p i Withheld e in
      f i l (rw c.0) (joined→chain (unmetered_but i) p _ _ c.1))

  -- One pass over the streams decides whether anything is withheld.
  pub one_pass_decides : NoneWithheld p ↔ AllJoin unmetered_only p.streams
  one_pass_decides = (
    λ n. free_joins p w.few_units (inside p w) max_units refl unmetered_only (none→free n),
    λ a. free→none (joins_free p w.few_units (inside p w) max_units refl unmetered_only a),
  )
