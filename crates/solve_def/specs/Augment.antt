-- The augmentation: d is moved along the streams that a search remembers, from the last place back to the first.
use Rattle.std.specs.Prelude.{List, ℕ, zero, suc, ◌+◌, ◌-◌, eqb, get_or, set}
use Rattle.num_bytes.specs.Choice.{pick}
use Rattle.plant_def.specs.declared.Stream.{Stream}
use Rattle.flow_def.specs.Flows.{stream_at}

-- The amount x of a stream after d moves along it to the place c.
abbrev pub moved_of : Stream → ℕ → ℕ → ℕ → ℕ
moved_of s x c d = pick (eqb s.to c) (x + d) (x - d)

-- The end of a stream that is not the place c.
abbrev pub other_end : Stream → ℕ → ℕ
other_end s c = pick (eqb s.to c) s.from s.to

-- Of the first j remembered streams, from the last: where it led to the place c, d is moved along it, and c is its other end.
unfoldable pub augmented : List Stream → List ℕ → List ℕ → ℕ → ℕ → ℕ → List ℕ → List ℕ
augmented ss via ends d zero c xs = xs
augmented ss via ends d (suc j) c xs =
    pick (eqb (get_or ends j 0) c)
    (augmented ss via ends d j (other_end (stream_at ss (get_or via j 0)) c)
    (set xs (get_or via j 0) (moved_of (stream_at ss (get_or via j 0)) (get_or xs (get_or via j 0) 0) c d)))
    (augmented ss via ends d j c xs)
