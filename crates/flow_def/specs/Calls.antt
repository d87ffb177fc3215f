-- What the calls over groups and classes take and hand over, and what each case of an answer means.
use Rattle.std.specs.Prelude.{◌≡◌, List, ℕ, ◌<◌, length, get_or}
use Rattle.num_bytes.specs.Choice.{pick}
use Rattle.plant_def.specs.declared.Stream.{Stream}
use Rattle.plant_def.specs.declared.Plant as Arrays
use Rattle.plant_def.specs.Limits.{places, max_streams}
use Rattle.plant_def.specs.Plants.{Plant}
use Rattle.plant_def.specs.Says.{plant_of}
use Rattle.flow_def.specs.declared.Class.{Class}
use Rattle.flow_def.specs.declared.Class.TheVariants.{AsRead, Adjusted, Given, Withheld}
use Rattle.flow_def.specs.declared.Bridges.{Bridges}
use Rattle.flow_def.specs.declared.Which.{Which}
use Rattle.flow_def.specs.declared.Which.TheVariants.{Every, Unmetered}
use Rattle.num_bytes.specs.Inner.{values}
use Rattle.flow_def.specs.Classes.{class_of}
use Rattle.flow_def.specs.Chains.{Counting, every_stream, unmetered_only}
use Rattle.flow_def.specs.Groups.{Groups}
use Rattle.flow_def.specs.Labels.{one_label}
use Rattle.num_bytes.specs.Sums.{bit}
use Rattle.flow_def.specs.Sides.{taken_at, looped_after}

-- Which streams count, by the cases of Which.
abbrev pub counting : Which → Counting
counting Every = every_stream
counting Unmetered = unmetered_only

-- The classes of all streams. (A record past the last stream is empty, from the outside to itself: its class is Withheld.)
abbrev pub classes_of : Plant → List Class
classes_of p = values max_streams (class_of p)

-- The labels of a plant's groups: those by all its unmetered streams.
abbrev pub Grouped : Arrays.Plant → List ℕ → Type 0
Grouped p labels = Groups unmetered_only (plant_of p).streams p.count labels

-- A plant's labels by the unmetered streams, the labels that its streams take away, and the bits of those that lie on a loop.
pub record Bridging (p : Arrays.Plant) (c : Bridges) : Type 0 where
  pub grouped : Grouped p c.labels
  pub long : length c.taken ≡ max_streams
  pub each : (i : ℕ) → i < p.count → get_or c.taken i 0 ≡ taken_at (plant_of p).streams i
  pub low : (i : ℕ) → i < p.count → get_or c.taken i 0 < places
  pub met : c.looped ≡ looped_after (plant_of p).streams p.count

-- A stream's class by the labels by the unmetered streams, the label that it took away and the bits of those that lie on a loop.
abbrev pub class_in : List ℕ → Stream → ℕ → ℕ → Class
class_in labels s h looped =
    pick s.metered (pick (one_label labels s.from s.to) AsRead Adjusted) (pick (bit h looped) Withheld Given)
