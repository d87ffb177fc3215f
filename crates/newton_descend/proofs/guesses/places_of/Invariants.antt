-- `newton_descend::guesses::places_of` meets its contract: of the places passed those whose labels are in the set are known.
use Rattle.std.proofs.Common.{◌≡◌, get_or}
use Rattle.num_bytes.specs.Sums.{bit}
use Rattle.newton_descend.specs.Guesses.{set_to}
use Rattle.newton_descend.proofs.guesses.places_of.Given as goal

abbrev pub invariant-loop-u : goal.invariant-loop-u
invariant-loop-u l = l.all ≡ set_to (λ k. bit (get_or l.labels k 0) l.bits) l.u
