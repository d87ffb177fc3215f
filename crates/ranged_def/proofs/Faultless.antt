-- A plant that is moved stays without fault, and nothing is said of it that its kinds of record do not say.
use mathlib.Core.Path.{◌≡◌, refl}
use mathlib.Core.Bool.{true, not, ◌&&◌, ◌||◌}
use mathlib.Core.List.{List, [], ◌∷◌, map}
use Prim.Native.Nat.{ℕ}
use lib.Dec.{eqb, ltb}
use lib.ListN.{length, length-map}
use borrow.Author.Tests.{eqb-false}
use Rattle.num_bytes.specs.Choice.{refuse_if, first_of}
use Rattle.num_bytes.proofs.Tests.{picked, and_left, and_right, and_both, first_none_left, first_none_right}
use Rattle.plant_def.specs.declared.Stream.{Stream}
use Rattle.plant_def.specs.Limits.{max_streams}
use Rattle.plant_def.specs.Plants.{Plant, limited, units_fault, meter_fault, range_fault, stream_fault, first_fault, parts_fault, plant_fault, plain_one, plain}
use Rattle.plant_def.specs.Files.{Got, bad, got, read_plant}
use Rattle.plant_def.proofs.Accepted.{accepted, refused}
use Rattle.plant_def.specs.Needs.{Faultless}
use Rattle.ranged_def.specs.Moves.{widened, bared, narrow_fault, moved, to_ranged, from_ranged}

-- The meter's faults of a stream without fault, with no fault of a range after them.
metered_good : (f g h k : ℕ) → first_of f (first_of g (first_of h k)) ≡ 0 → first_of f (first_of g (first_of h 0)) ≡ 0
metered_good f g h k e =
    let r = first_none_right f (first_of g (first_of h k)) e in
    let t = first_none_right g (first_of h k) r in
    rw (first_none_left f (first_of g (first_of h k)) e, first_none_left g (first_of h k) r, first_none_left h k t)

module _ (n : ℕ) (s : Stream) where
  ends_fault : ℕ
  ends_fault = refuse_if (ltb n s.from || ltb n s.to) 7

  same_fault : ℕ
  same_fault = refuse_if (eqb s.from s.to) 8

  -- A stream without fault has none in the ranged form,
  pub widened_good : stream_fault n s ≡ 0 → stream_fault n (widened s) ≡ 0
  unfolding ends_fault same_fault
  widened_good e =
      picked (λ (t : Stream). stream_fault n t ≡ 0) (s.metered && not s.ranged) _ s
      (λ q. metered_good ends_fault same_fault (meter_fault s.weight s.reading) (range_fault s.ranged s.low s.high) (rw (and_left s.metered (not s.ranged) q) at e))
      (λ q. e)

  -- and none moved home.
  pub bared_good : stream_fault n s ≡ 0 → stream_fault n (bared s) ≡ 0
  unfolding ends_fault same_fault
  bared_good e =
      picked (λ (t : Stream). stream_fault n t ≡ 0) (limited s) _ s
      (λ q. metered_good ends_fault same_fault (meter_fault s.weight s.reading) (range_fault s.ranged s.low s.high) (rw (and_left s.metered s.ranged q) at e))
      (λ q. e)

-- A plain stream is plain in the ranged form,
pub widened_plain : (s : Stream) → plain_one s ≡ true → plain_one (widened s) ≡ true
widened_plain s e = picked (λ (t : Stream). plain_one t ≡ true) (s.metered && not s.ranged) _ s (λ q. refl) (λ q. e)

-- and moved home.
pub bared_plain : (s : Stream) → plain_one s ≡ true → plain_one (bared s) ≡ true
bared_plain s e = picked (λ (t : Stream). plain_one t ≡ true) (limited s) _ s (λ q. refl) (λ q. e)

-- A move that keeps each stream without fault, and plain.
module _ (f : Stream → Stream) where
  module _ (n : ℕ) (good : (s : Stream) → stream_fault n s ≡ 0 → stream_fault n (f s) ≡ 0) where
    streams_good : (ss : List Stream) → first_fault n ss ≡ 0 → first_fault n (map f ss) ≡ 0
    streams_good [] e = refl
    streams_good (s ∷ ss) e =
        rw (good s (first_none_left (stream_fault n s) (first_fault n ss) e)) (streams_good ss (first_none_right (stream_fault n s) (first_fault n ss) e))

    parts_good : (c : ℕ) (ss : List Stream) → parts_fault n c ss ≡ 0 → parts_fault n c (map f ss) ≡ 0
    parts_good c ss e =
        let many = refuse_if (ltb max_streams c) 5 in
        let r = first_none_right (units_fault n) (first_of many (first_fault n ss)) e in
        rw (first_none_left (units_fault n) (first_of many (first_fault n ss)) e, first_none_left many (first_fault n ss) r)
        (streams_good ss (first_none_right many (first_fault n ss) r))

  -- A move that keeps each stream without fault keeps the plant without fault,
  pub moved_good : (p : Plant) → ((s : Stream) → stream_fault p.units s ≡ 0 → stream_fault p.units (f s) ≡ 0) → plant_fault p ≡ 0 → plant_fault (moved f p) ≡ 0
  moved_good p good e = rw (length-map p.streams f) (parts_good p.units good (length p.streams) p.streams e)

  -- and one that keeps each stream plain keeps a list of them plain.
  pub moved_plain : ((s : Stream) → plain_one s ≡ true → plain_one (f s) ≡ true) → (ss : List Stream) → plain ss ≡ true → plain (map f ss) ≡ true
  moved_plain h [] e = refl
  moved_plain h (s ∷ ss) e = and_both (plain_one (f s)) _ (h s (and_left (plain_one s) (plain ss) e)) (moved_plain h ss (and_right (plain_one s) (plain ss) e))

-- A plant without fault has none in the ranged form,
pub forward_good : (p : Plant) → plant_fault p ≡ 0 → plant_fault (moved widened p) ≡ 0
forward_good p = moved_good widened p (widened_good p.units)

-- and none moved home.
pub home_good : (p : Plant) → plant_fault p ≡ 0 → plant_fault (moved bared p) ≡ 0
home_good p = moved_good bared p (bared_good p.units)

-- What was read, and moved.
read_good : (file : List ℕ) → Faultless (read_plant file)
read_good file = go (read_plant file) refl
  where
    go : (g : Got) → read_plant file ≡ g → Faultless g
    go (bad f) e = refused file f e
    go (got p) e = (accepted file p e).0

-- What a file becomes in the ranged form has no fault,
pub to_good : (file : List ℕ) → Faultless (to_ranged (read_plant file))
to_good file = go (read_plant file) (read_good file)
  where
    go : (g : Got) → Faultless g → Faultless (to_ranged g)
    go (bad f) h = h
    go (got p) h = forward_good p h

-- nor has what it becomes moved home.
pub from_good : (file : List ℕ) → Faultless (from_ranged (read_plant file))
from_good file = go (read_plant file) (read_good file)
  where
    go : (g : Got) → Faultless g → Faultless (from_ranged g)
    go (bad f) h = h
    go (got p) h =
        picked Faultless (eqb (narrow_fault p.streams) 0) (got _) (bad _) (λ q. home_good p h) (λ q. eqb-false (narrow_fault p.streams) 0 q)
