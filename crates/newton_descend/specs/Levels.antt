-- Potentials of places, one for each label, within bounds.
use Rattle.std.specs.Prelude.{◌≡◌, ℕ, ◌+◌, ◌<◌, ◌≤◌, List, map, length, from_bits, slice_index, Float}
use Rattle.std.specs.Float.{binary64}
use Rattle.std.specs.Float.Ieee.{neg, add, lt, to_unsigned}
use Rattle.num_bytes.specs.Choice.{pick}
use Rattle.plant_def.specs.Limits.{places}

-- Potentials in a band, from top − band to top.
pub record Banded (top band : ℕ) (ps : List ℕ) : Type 0 where
  pub long : length ps ≡ places
  pub low : (u : ℕ) → u < places → top ≤ slice_index ps u + band
  pub high : (u : ℕ) → u < places → slice_index ps u ≤ top

-- The whole number nearest to x, 0 where there is none: x and a half, less its fraction.
abbrev pub whole_of : Float → ℕ
whole_of x =
    let y = add binary64 x (from_bits binary64 4602678819172646912) in
    pick (lt (neg (from_bits binary64 4607182418800017408)) y) (pick (lt y (from_bits binary64 4895412794951729152)) (to_unsigned 64 y) 0) 0

-- The potential of each place's label.
abbrev pub at_labels : List ℕ → List ℕ → List ℕ
at_labels ps ls = map (λ l. slice_index ps l) ls

-- Such potentials, and places of one label have one potential.
pub record Level (ls : List ℕ) (top band : ℕ) (ps : List ℕ) : Type 0 where
  pub bounded : Banded top band ps
  pub level : (u v : ℕ) → u < places → v < places → slice_index ls u ≡ slice_index ls v → slice_index ps u ≡ slice_index ps v
