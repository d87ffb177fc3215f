-- What was read, and moved, as it is handed over.
use mathlib.Core.Path.{◌≡◌, refl, sym, ap, ◌∙◌}
use mathlib.Core.List.{List, map}
use Prim.Native.Nat.{ℕ}
use lib.ListN.{length, length-map}
use borrow.Author.Tests.{eq-eqb, ne_eqb}
use Rattle.plant_def.specs.declared.Stream.{Stream}
use Rattle.plant_def.specs.Results.{Read}
use Rattle.plant_def.specs.Limits.{max_streams}
use Rattle.plant_def.specs.Plants.{Plant, no_stream}
use Rattle.plant_def.specs.Files.{Got, bad, got, read_plant}
use Rattle.plant_def.specs.Says.{arrayed, read_of}
use Rattle.plant_def.proofs.Accepted.{accepted, refused}
use Rattle.plant_def.proofs.Limited.{few_parts}
use Rattle.plant_def.proofs.Found.{read_bad}
use Rattle.ranged_def.specs.Moves.{widened, bared, narrow_fault, moved, to_ranged, from_ranged}
use Rattle.ranged_def.proofs.Mapped.{map_padded, narrow_padded}

-- A plant in its array, each record moved.
moved_held : (f : Stream → Stream) → f no_stream ≡ no_stream → (p : Plant) (y : Read) (ss : List Stream) → y ≡ read_of (got p) → ss ≡ map f y.plant.streams
    → record { number = 0; plant = record { units = y.plant.units; count = y.plant.count; streams = ss } } ≡ read_of (got (moved f p))
moved_held f n p y ss e d =
    let held : ss ≡ (arrayed (moved f p)).streams = d ∙ ap (λ (t : Read). map f t.plant.streams) e ∙ map_padded f n max_streams p.streams in
    let count : y.plant.count ≡ length (map f p.streams) = ap (λ (t : Read). t.plant.count) e ∙ sym (length-map p.streams f) in
    λ i. record { number = 0; plant = record { units = (e i).plant.units; count = count i; streams = held i } }

module _ (file : List ℕ) (y : Read) (e : y ≡ read_of (read_plant file)) where
  -- A refusal is handed on.
  module _ (n : y.number ≡ 0 → ⊥) (r : Read) (d : r ≡ read_of (bad y.number)) where
    -- A refusal stays one on the way to the ranged form,
    pub forward_bad : r ≡ read_of (to_ranged (read_plant file))
    forward_bad = d ∙ ap (λ (g : Got). read_of (to_ranged g)) (sym (read_bad (read_plant file) y e n))

    -- and on the way home.
    pub home_bad : r ≡ read_of (from_ranged (read_plant file))
    home_bad = d ∙ ap (λ (g : Got). read_of (from_ranged g)) (sym (read_bad (read_plant file) y e n))

  -- A plant is moved.
  module _ (z : y.number ≡ 0) where
    -- A plant with its streams widened is the plant in the ranged form.
    pub forward_good : (ss : List Stream) → ss ≡ map widened y.plant.streams
        → record { number = 0; plant = record { units = y.plant.units; count = y.plant.count; streams = ss } } ≡ read_of (to_ranged (read_plant file))
    forward_good ss d = go (read_plant file) refl e
      where
        go : (g : Got) → read_plant file ≡ g → y ≡ read_of g
            → record { number = 0; plant = record { units = y.plant.units; count = y.plant.count; streams = ss } } ≡ read_of (to_ranged g)
        go (bad f) h q = absurd (refused file f h (sym (ap (λ (t : Read). t.number) q) ∙ z))
        go (got p) h q = moved_held widened refl p y ss q d

    -- The fault of the array is that of the plant.
    fault_held : (p : Plant) → read_plant file ≡ got p → y ≡ read_of (got p) → narrow_fault y.plant.streams ≡ narrow_fault p.streams
    fault_held p h q =
        ap (λ (t : Read). narrow_fault t.plant.streams) q
        ∙ narrow_padded max_streams p.streams (few_parts p.units (length p.streams) p.streams (accepted file p h).0)

    module _ (f : ℕ) (d : f ≡ narrow_fault y.plant.streams) where
      -- A narrower range is refused on the way home;
      pub home_narrow : (f ≡ 0 → ⊥) → (r : Read) → r ≡ read_of (bad f) → r ≡ read_of (from_ranged (read_plant file))
      home_narrow n r w = w ∙ go (read_plant file) refl e
        where
          go : (g : Got) → read_plant file ≡ g → y ≡ read_of g → read_of (bad f) ≡ read_of (from_ranged g)
          go (bad k) h q = absurd (refused file k h (sym (ap (λ (t : Read). t.number) q) ∙ z))
          go (got p) h q =
              let k : f ≡ narrow_fault p.streams = d ∙ fault_held p h q in
              simp (ne_eqb (narrow_fault p.streams) 0 (λ (w : narrow_fault p.streams ≡ 0). n (k ∙ w))) (ap (λ (j : ℕ). read_of (bad j)) k)

      -- without one, the plant with its streams bared is the plant moved home.
      pub home_good : f ≡ 0 → (ss : List Stream) → ss ≡ map bared y.plant.streams
          → record { number = 0; plant = record { units = y.plant.units; count = y.plant.count; streams = ss } } ≡ read_of (from_ranged (read_plant file))
      home_good n ss w = go (read_plant file) refl e
        where
          go : (g : Got) → read_plant file ≡ g → y ≡ read_of g
              → record { number = 0; plant = record { units = y.plant.units; count = y.plant.count; streams = ss } } ≡ read_of (from_ranged g)
          go (bad k) h q = absurd (refused file k h (sym (ap (λ (t : Read). t.number) q) ∙ z))
          go (got p) h q = simp (eq-eqb (narrow_fault p.streams) 0 (sym (fault_held p h q) ∙ sym d ∙ n)) (moved_held bared refl p y ss q w)
