-- `newton_descend::guesses::places_of` meets its contract: of the places passed those whose labels are in the set are known.
use Rattle.std.proofs.Common.{◌≡◌, ℕ, ap, ◌∙◌, arith}
use Rattle.plant_def.specs.Limits.{places}
use Rattle.num_bytes.specs.Sums.{bit}
use Rattle.newton_descend.specs.Guesses.{set_to}
use Rattle.newton_descend.proofs.Guessing.{set_none, set_more}
use Rattle.newton_descend.proofs.guesses.places_of.Goals as goal

pub loop-u-init : goal.loop-u-init
loop-u-init c = set_none _

pub loop-u-preserved : goal.loop-u-preserved
loop-u-preserved c =
    set_more _ c.loop-u.u c.loop-u.all _ _ c.loop-u.invariant c.bit_of-all.ensures (c.is_in.ensures ∙ ap (λ (g : ℕ). bit g c.args.bits) c.from.ensures)

pub returns : goal.returns
returns c = let e : c.loop-u.u ≡ places = omega arith in c.loop-u.invariant ∙ ap (set_to _) e
