-- The array that holds a plant's streams: always as long as its limit, empty past the count.
use mathlib.Core.Path.{◌≡◌, sym, ap, ◌∙◌}
use mathlib.Core.List.{List, [], ◌∷◌, ◌++◌}
use Prim.Native.Nat.{ℕ, ◌≤◌, ◌<◌}
use lib.ListN.{length, get_or, set, replicate}
use lib.Seq.{get_or-take}
use Rattle.num_bytes.proofs.Filled.{length_filled, filled_none, filled_more, take_filled}
use Rattle.plant_def.specs.declared.Stream.{Stream}
use Rattle.plant_def.specs.Limits.{max_streams}
use Rattle.plant_def.specs.Plants.{Plant, no_stream}
use Rattle.plant_def.specs.Says.{padded, arrayed, plant_of}

-- As long as its limit.
pub length_padded : (n : ℕ) (ss : List Stream) → length (padded n ss) ≡ n
length_padded = length_filled no_stream

-- An array of empty records holds no stream.
pub padded_none : (n : ℕ) → replicate n no_stream ≡ padded n []
padded_none = filled_none no_stream

-- One stream more.
pub padded_more : (n : ℕ) (ss : List Stream) (x : Stream) → length ss < n → set (padded n ss) (length ss) x ≡ padded n (ss ++ (x ∷ []))
padded_more = filled_more no_stream

-- A stream of a list that fits the array.
pub get_d_padded : (n : ℕ) (ss : List Stream) (k : ℕ) → length ss ≤ n → k < length ss → get_or (padded n ss) k no_stream ≡ get_or ss k no_stream
get_d_padded n ss k h l = sym (get_or-take (length ss) (padded n ss) k no_stream l) ∙ ap (λ (t : List Stream). get_or t k no_stream) (take_filled no_stream n ss h)

-- A plant that fits the array is the plant that the array holds.
pub plant_held : (p : Plant) → length p.streams ≤ max_streams → plant_of (arrayed p) ≡ p
plant_held p h = λ i. record { units = p.units; streams = take_filled no_stream max_streams p.streams h i }
