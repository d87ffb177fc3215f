-- Groups in one pass over the streams. Each place has a label, at first its own number; a stream that counts gives the groups
-- of both its ends the lower of their labels.
use Rattle.std.specs.Prelude.{Bool, List, map, ℕ, zero, suc, ◌+◌, min, max, eqb, length, get_or}
use Rattle.num_bytes.specs.Choice.{pick}
use Rattle.plant_def.specs.declared.Stream.{Stream}
use Rattle.plant_def.specs.Limits.{places}
use Rattle.plant_def.specs.Plants.{Plant}
use Rattle.flow_def.specs.Flows.{stream_at}
use Rattle.num_bytes.specs.Inner.{values}
use Rattle.flow_def.specs.Chains.{Counting}

-- Each place's own number.
abbrev pub own_numbers : List ℕ
own_numbers = values places (λ u. u)

-- The label hi becomes lo.
abbrev pub renamed : ℕ → ℕ → ℕ → ℕ
renamed lo hi x = pick (eqb x hi) lo x

-- The same at every place of a list.
abbrev pub relabelled : ℕ → ℕ → List ℕ → List ℕ
relabelled lo hi ls = map (renamed lo hi) ls

-- The labels a and b become one, the lower.
abbrev pub united : ℕ → ℕ → List ℕ → List ℕ
united a b ls = relabelled (min a b) (max a b) ls

-- A step: the labels and the next stream, which counts or not.
abbrev pub stepped : Bool → Stream → List ℕ → List ℕ
stepped counts s ls = pick counts (united (get_or ls s.from 0) (get_or ls s.to 0) ls) ls

-- The labels after k steps.
unfoldable pub labels_after : Counting → List Stream → ℕ → List ℕ
labels_after counts ss zero = own_numbers
labels_after counts ss (suc k) = stepped (counts k (stream_at ss k)) (stream_at ss k) (labels_after counts ss k)

-- The labels after all streams of a plant.
abbrev pub labels_of : Counting → Plant → List ℕ
labels_of counts p = labels_after counts p.streams (length p.streams)

-- Two places have one label.
abbrev pub one_label : List ℕ → ℕ → ℕ → Bool
one_label ls u v = eqb (get_or ls u 0) (get_or ls v 0)

-- How many of the places 0 to n bear their own number.
abbrev pub own_labels : List ℕ → ℕ → ℕ
own_labels ls zero = 1
own_labels ls (suc u) = pick (eqb (get_or ls (suc u) 0) (suc u)) 1 0 + own_labels ls u
