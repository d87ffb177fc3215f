-- Amounts, weights and readings as they are held, and the step condition.
use Rattle.std.specs.Prelude.{List, map, ℤ, pos, negsuc, ◌-ℤ◌, ℕ, suc, ◌+◌, ◌-◌, ◌*◌, ◌≤◌, ◌<◌, length, get_or, take}
use Rattle.num_bytes.specs.Choice.{pick}
use Rattle.plant_def.specs.declared.Stream.{Stream}
use Rattle.plant_def.specs.Plants.{limited}
use Rattle.flow_def.specs.Flows.{stream_at}
use Rattle.flow_def.specs.Certificate.{weight_of}
use Rattle.solve_def.specs.Sizes.{flow_shift, most_flow}

-- An amount as it is held.
abbrev pub shifted : ℤ → ℕ
shifted (pos a) = flow_shift + a
shifted (negsuc a) = flow_shift - suc a

-- The amount that is held as x.
unfoldable pub unshifted : ℕ → ℤ
unshifted x = pos x -ℤ pos flow_shift

-- The flow that the first n of a list of held amounts are.
abbrev pub opened : ℕ → List ℕ → List ℤ
opened n xs = map unshifted (take n xs)

-- A stream's reading as it is held.
abbrev pub reading_of : Stream → ℕ
reading_of s = shifted s.reading

-- The low end of a stream's range as it is held: 0 where it has none.
unfoldable pub low_of : Stream → ℕ
low_of s = pick (limited s) (shifted s.low) 0

-- The high end of a stream's range as it is held: most_flow where it has none.
unfoldable pub high_of : Stream → ℕ
high_of s = pick (limited s) (shifted s.high) most_flow

-- The step condition at step m, of a stream of weight w with amount X and reading R, from L to H in range, between the potentials u and v
-- of its start and its end, all as held: w (2 (X − R) − m) ≤ v − u where the amount can fall by m, and v − u ≤ w (2 (X − R) + m)
-- where it can rise by m.
pub record StepMet (m w X R u v L H : ℕ) : Type 0 where
  pub low : L + m ≤ X → 2 * w * X + u ≤ v + 2 * w * R + w * m
  pub high : X + m ≤ H → v + 2 * w * R ≤ 2 * w * X + w * m + u

-- The step condition at step m, of stream k with the amounts xs and the potentials ps.
abbrev pub StepMetAt : List Stream → List ℕ → List ℕ → ℕ → ℕ → Type 0
StepMetAt ss xs ps m k =
    let s = stream_at ss k in
    StepMet m (weight_of s) (get_or xs k 0) (reading_of s) (get_or ps s.from 0) (get_or ps s.to 0) (low_of s) (high_of s)

-- The step condition at step m, of every stream.
abbrev pub AllStepsMet : List Stream → List ℕ → List ℕ → ℕ → Type 0
AllStepsMet ss xs ps m = (k : ℕ) → k < length ss → StepMetAt ss xs ps m k

-- Every amount is in its stream's range.
abbrev pub AllInside : List Stream → List ℕ → Type 0
AllInside ss xs = (k : ℕ) → k < length ss → (low_of (stream_at ss k) ≤ get_or xs k 0) × (get_or xs k 0 ≤ high_of (stream_at ss k))
