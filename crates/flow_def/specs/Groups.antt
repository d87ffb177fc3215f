-- Groups of places, formed in one pass: a step takes the labels of the groups and the next stream.
use Rattle.std.specs.Prelude.{◌≡◌, ◌↔◌, Bool, false, ◌&&◌, List, ℕ, suc, ◌≤◌, ◌<◌, ltb, length, get_or}
use Rattle.plant_def.specs.declared.Stream.{Stream}
use Rattle.plant_def.specs.Limits.{places}
use Rattle.plant_def.specs.Plants.{Plant}
use Rattle.plant_def.specs.Files.{got, read_plant}
use Rattle.flow_def.specs.Flows.{stream_at}
use Rattle.flow_def.specs.Chains.{Counting, Chain}

-- Only the first k streams count.
abbrev pub first_only : ℕ → Counting → Counting
first_only k counts j s = ltb j k && counts j s

-- The labels of the groups by the first k streams, one for each place: two places have one label exactly when a chain of those
-- that count joins them, and the label is the lowest place of its group.
pub record Groups (counts : Counting) (ss : List Stream) (k : ℕ) (labels : List ℕ) : Type 0 where
  pub long : length labels ≡ places
  pub one : (u v : ℕ) → u < places → v < places → (get_or labels u 0 ≡ get_or labels v 0) ↔ Chain (first_only k counts) ss u v
  pub member : (u : ℕ) → u < places → Chain (first_only k counts) ss u (get_or labels u 0)
  pub lowest : (u v : ℕ) → u < places → v < places → Chain (first_only k counts) ss u v → get_or labels u 0 ≤ v

-- The streams' ends are places.
abbrev pub AmongPlaces : List Stream → Type 0
AmongPlaces ss = (j : ℕ) → j < length ss → ((stream_at ss j).from < places) × ((stream_at ss j).to < places)

-- What a step over stream s does, which counts or not: from the groups by the streams before it come those by it and them.
pub record StepSays (c : Bool) (s : Stream) (labels labels' : List ℕ) : Type 0 where
  pub next : (counts : Counting) (ss : List Stream) (k : ℕ) → AmongPlaces ss → k < length ss → stream_at ss k ≡ s → counts k s ≡ c
      → Groups counts ss k labels → Groups counts ss (suc k) labels'
  -- A stream that does not count changes nothing.
  pub idle : c ≡ false → labels' ≡ labels

-- A pass over the streams: the labels after each number of steps, at first each place by itself.
pub record Pass (counts : Counting) (ss : List Stream) (labels : ℕ → List ℕ) : Type 0 where
  pub begins : Groups counts ss 0 (labels 0)
  pub steps : (k : ℕ) → k < length ss → StepSays (counts k (stream_at ss k)) (stream_at ss k) (labels k) (labels (suc k))

-- Of every plant that is read: there is a pass, and whichever it is, after k steps its labels are those of the groups by the first k
-- streams, of which there is one list alone; after all steps chains of all streams that count join the places with one label.
pub record OnePass (counts : Counting) : Type 0 where
  pub some : (file : List ℕ) (p : Plant) → read_plant file ≡ got p → (labels : ℕ → List ℕ) × Pass counts p.streams labels
  pub after : (file : List ℕ) (p : Plant) → read_plant file ≡ got p → (labels : ℕ → List ℕ) → Pass counts p.streams labels
      → (k : ℕ) → k ≤ length p.streams → Groups counts p.streams k (labels k)
  pub only : (ss : List Stream) (k : ℕ) (a b : List ℕ) → Groups counts ss k a → Groups counts ss k b → a ≡ b
  pub whole : (ss : List Stream) (labels : List ℕ) → Groups counts ss (length ss) labels → (u v : ℕ) → u < places → v < places
      → (get_or labels u 0 ≡ get_or labels v 0) ↔ Chain counts ss u v
