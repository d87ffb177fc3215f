-- `newton_descend::guesses::fallen` meets its contract: of the groups passed those that fall are known.
use Rattle.std.proofs.Common.{◌≡◌}
use Rattle.newton_descend.specs.Guesses.{set_to, falls}
use Rattle.newton_descend.proofs.guesses.fallen.Given as goal

abbrev pub invariant-loop-u : goal.invariant-loop-u
invariant-loop-u l = l.bits ≡ set_to (falls l.way l.middle) l.u
