-- What inner calls count: the sets of n streams as the bits of the numbers below 2 ^ n. No public promise cites it.
use Rattle.std.specs.Prelude.{Bool, not, ◌&&◌, ◌||◌, ◌≡◌, List, ℕ, ◌≤◌, ◌<◌, eqb, length, get_or}
use Rattle.plant_def.specs.declared.Stream.{Stream}
use Rattle.plant_def.specs.Limits.{max_units}
use Rattle.plant_def.specs.Plants.{no_stream}
use Rattle.plant_def.specs.Within.{WithinStream}
use Rattle.flow_def.specs.Flows.{stream_at}
use Rattle.flow_def.specs.Chains.{Counting}
use Rattle.flow_def.specs.Labels.{labels_after, one_label}
use Rattle.num_bytes.specs.Sums.{bit, count_to}
use Rattle.flow_def.specs.Certificate.{every}
use Rattle.survey_def.specs.Says.{max_surveyed}

-- The streams that are left without a meter by the number m: those whose bit is 0.
abbrev pub bit_off : ℕ → Counting
bit_off m k s = not (bit k m)

-- Stream k has a meter, or joins two groups of the streams left before it.
abbrev pub meets : ℕ → List Stream → ℕ → Bool
meets m ss k = bit k m || not (one_label (labels_after (bit_off m) ss k) (stream_at ss k).from (stream_at ss k).to)

-- Each of them does: the streams left have no loop.
abbrev pub each_meets : ℕ → List Stream → Bool
each_meets m ss = every (length ss) (meets m ss)

-- How many of the first n bits of a number are 1.
abbrev pub ones : ℕ → ℕ → ℕ
ones n m = count_to n (λ j. bit j m)

-- Of the numbers below a top, how many have k ones and leave streams without a loop.
abbrev pub count_below : List Stream → ℕ → ℕ → ℕ
count_below ss k top = count_to top (λ m. eqb (ones (length ss) m) k && each_meets m ss)

-- The first n of so many streams as are surveyed, within the limits of a plant.
pub record Few (n : ℕ) (ss : List Stream) : Type 0 where
  pub few : n ≤ max_surveyed
  pub long : length ss ≡ max_surveyed
  pub each : (k : ℕ) → k < n → WithinStream max_units (get_or ss k no_stream)

-- No more streams than are surveyed, within the limits of a plant.
pub record Surveyable (ss : List Stream) : Type 0 where
  pub few : length ss ≤ max_surveyed
  pub each : (k : ℕ) → k < length ss → WithinStream max_units (get_or ss k no_stream)
