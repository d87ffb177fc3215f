-- Refusal 19: a set of places that must take in more than it can let out.
use Rattle.std.specs.Prelude.{◌≡◌, ◌⊎◌, Bool, true, false, not, ◌&&◌, ◌||◌, List, [], ◌∷◌, ℤ, pos, ◌+ℤ◌, ℕ, ◌≤◌, ◌<◌, length, get_or, replicate}
use Rattle.std.specs.Int.Signed.{lt_z}
use Rattle.num_bytes.specs.Choice.{pick}
use Rattle.plant_def.specs.declared.Stream.{Stream}
use Rattle.plant_def.specs.Limits.{places}
use Rattle.plant_def.specs.Plants.{Plant, limited}
use Rattle.plant_def.specs.Files.{got, read_plant}
use Rattle.flow_def.specs.Flows.{stream_at, allowed_over, Cheapest}

-- A set of places is given by a mark, yes or no, for each.
abbrev pub marks : List Bool → ℕ → Bool
marks ms u = get_or ms u false

-- No place is marked.
abbrev pub unmarked : List Bool
unmarked = replicate places false

-- A stream across its edge, into the set.
abbrev pub enters : (ℕ → Bool) → Stream → Bool
enters c s = c s.to && not (c s.from)

-- A stream out of the set.
abbrev pub leaves : (ℕ → Bool) → Stream → Bool
leaves c s = c s.from && not (c s.to)

-- The lows of the streams into the set, summed.
abbrev pub lows_in : (ℕ → Bool) → List Stream → ℤ
lows_in c [] = pos 0
lows_in c (s ∷ ss) = pick (enters c s) s.low (pos 0) +ℤ lows_in c ss

-- The highs of the streams out of the set, summed.
abbrev pub highs_out : (ℕ → Bool) → List Stream → ℤ
highs_out c [] = pos 0
highs_out c (s ∷ ss) = pick (leaves c s) s.high (pos 0) +ℤ highs_out c ss

-- Marks of the places 0 to n of a plant, those past them being no: every stream across the edge has a range, and the lows in
-- sum to more than the highs out.
pub record Overfull (p : Plant) (ms : List Bool) : Type 0 where
  pub long : length ms ≡ places
  pub placed : (u : ℕ) → p.units < u → marks ms u ≡ false
  pub bounded : (k : ℕ) → k < length p.streams
      → enters (marks ms) (stream_at p.streams k) || leaves (marks ms) (stream_at p.streams k) ≡ true
      → limited (stream_at p.streams k) ≡ true
  pub more : lt_z (highs_out (marks ms) p.streams) (lows_in (marks ms) p.streams) ≡ true

-- A plant that is read has a cheapest flow, or such a set; and with such a set no balanced flow, over any denominator, lies
-- within all ranges: never both.
pub record Refusal19 : Type 0 where
  pub either : (file : List ℕ) (p : Plant) → read_plant file ≡ got p → ((xs : List ℤ) × Cheapest p xs) ⊎ ((ms : List Bool) × Overfull p ms)
  pub none : (file : List ℕ) (p : Plant) (ms : List Bool) → read_plant file ≡ got p → Overfull p ms
      → (d : ℕ) (ys : List ℤ) → 1 ≤ d → allowed_over d p ys ≡ false
