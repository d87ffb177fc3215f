-- A survey of meter layouts: how many choices of k metered streams leave none withheld.
use Rattle.std.specs.Prelude.{◌≡◌, ◌↔◌, Bool, true, false, ◌&&◌, List, [], ◌∷◌, map, ℕ, zero, suc, ◌+◌, eqb, length}
use Rattle.num_bytes.specs.Choice.{pick}
use Rattle.plant_def.specs.declared.Stream.{Stream}
use Rattle.plant_def.specs.Plants.{Plant, unmetered}
use Rattle.flow_def.specs.Withheld.{NoneWithheld}
use Rattle.flow_def.specs.Metering.{metering}

-- The plant without any meter.
abbrev pub bare : Plant → Plant
bare p = record { units = p.units; streams = map (λ (s : Stream). unmetered s.from s.to) p.streams }

-- The plant with the streams of a set metered, and no others.
abbrev pub laid_out : List Bool → Plant → Plant
laid_out set p = metering set (bare p)

-- How many streams a set holds.
abbrev pub size : List Bool → ℕ
size [] = 0
size (b ∷ set) = pick b 1 0 + size set

-- How many sets of n streams pass a test: those with the first stream, and those without it.
abbrev pub sets_of : ℕ → (List Bool → Bool) → ℕ
sets_of zero test = pick (test []) 1 0
sets_of (suc n) test = sets_of n (λ set. test (true ∷ set)) + sets_of n (λ set. test (false ∷ set))

-- c choices of k metered streams leave none withheld: so many sets of k streams pass a test that tells of each set whether it does.
pub record Counted (p : Plant) (k c : ℕ) : Type 0 where
  pub test : List Bool → Bool
  pub tells : (set : List Bool) → (test set ≡ true) ↔ NoneWithheld (laid_out set p)
  pub counts : c ≡ sets_of (length p.streams) (λ set. eqb (size set) k && test set)
