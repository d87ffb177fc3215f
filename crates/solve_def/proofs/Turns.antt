-- One turn of each of the solver's loops, and what the calls of an improvement need.
use mathlib.Core.Path.{◌≡◌, refl, sym, ◌∙◌, ap, subst}
use mathlib.Core.Bool.{Bool, true, false}
use mathlib.Core.List.{List, [], ◌∷◌}
use Prim.Native.Nat.{ℕ, zero, suc, ◌+◌, ◌-◌, ◌*◌, ◌≤◌, ◌<◌}
use native.Mathlib.Numerals.{add-one}
use native.Mathlib.Omega.{arith}
use native.Mathlib.Decide.{ℕ_discrete}
use lib.ListN.{length, get_or, set, take, replicate}
use lib.Seq.{get_or-set_same, get_or-set_other, get_or-take}
use Rattle.num_bytes.specs.Choice.{pick}
use Rattle.num_bytes.proofs.Tests.{clash}
use Rattle.plant_def.specs.declared.Stream.{Stream}
use Rattle.plant_def.specs.Limits.{max_units, places, max_streams}
use Rattle.plant_def.specs.Plants.{no_stream}
use Rattle.solve_def.specs.declared.Tree.{Tree}
use Rattle.solve_def.specs.declared.State.{State}
use Rattle.solve_def.specs.Sizes.{net_shift, settled_room}
use Rattle.solve_def.specs.Search.{target, Grown, grown_by, sought}
use Rattle.solve_def.specs.SearchNeeds.{Network, Potentials, SizeWithin, Trail, Roomy}
use Rattle.solve_def.specs.Model.{improved_by, settled_of, settled_to, booked, nets_to, augmented_on, improved_at, excess_sum}
use Rattle.solve_def.specs.SolverNeeds.{Step, Shiftable, Underway}
use Rattle.solve_def.proofs.Counting.{count_most}
use Rattle.solve_def.proofs.Hunting.{Hunt, hit, stuck, sought_stays}
use Rattle.solve_def.proofs.Streams.{in_use, solvable_of}
use Rattle.solve_def.proofs.Steady.{over_at, sound_within, underway_room, finds}

-- A store keeps a bound.
pub set_le : (e : List ℕ) (s y v b : ℕ) → s < length e → y ≤ b → get_or e v 0 ≤ b → get_or (set e s y) v 0 ≤ b
set_le e s y v b l h k = elim (ℕ_discrete v s) [
  | yes q ↦ rw (q, get_or-set_same e s y 0 l) h
  | no q ↦ rw (get_or-set_other e s v y 0 q) k
]

-- An improvement by its parts.
module _ (ss : List Stream) (st : State) (d s : ℕ) (found : Bool) (t : Tree) (ps : List ℕ) (e : grown_by found t ps ≡ sought ss st.flows st.nets st.potentials d s) where
  -- An improvement by what its search found.
  pub improved_is : improved_at ss st d s ≡ improved_by found (pick found (augmented_on ss st d s (grown_by found t ps)) st) t.visited
  improved_is = rw (← e)

  -- The search found a place.
  pub improved_done : found ≡ true → improved_at ss st d s ≡ improved_by found (augmented_on ss st d s (grown_by found t ps)) t.visited
  improved_done f = improved_is ∙ ap (λ (b : Bool). improved_by found (pick b (augmented_on ss st d s (grown_by found t ps)) st) t.visited) f

  -- Where none can be made, the potentials stay.
  pub improved_none : found ≡ false → (ps ≡ st.potentials) × (improved_at ss st d s ≡ improved_by found st t.visited)
  improved_none f = (
    kept (sought_stays ss st.flows st.nets st.potentials d s),
    improved_is ∙ ap (λ (b : Bool). improved_by found (pick b (augmented_on ss st d s (grown_by found t ps)) st) t.visited) f,
  )
    where
      kept : ((sought ss st.flows st.nets st.potentials d s).found ≡ false → (sought ss st.flows st.nets st.potentials d s).potentials ≡ st.potentials) → ps ≡ st.potentials
      kept h = ap (λ (g : Grown). g.potentials) e ∙ h (ap (λ (g : Grown). g.found) (sym e) ∙ f)

-- What is known once the search is done.
pub record Moving (n : ℕ) (st : State) (s d : ℕ) (t : Tree) : Type 0 where
  pub some : 1 ≤ t.len
  pub short : t.len < places
  pub trail : Trail t.via n t.len
  pub roomy : Roomy st.flows t.len
  pub shiftable : Shiftable st.nets s (target t) d

module _ (streams : List Stream) (n : ℕ) (w : Network streams n) (st : State) (s d : ℕ) (step : Step d) (h : Underway (take n streams) d settled_room st) (l : s < places)
    (over : net_shift + d ≤ get_or st.nets s 0) where
  abbrev ss : List Stream
  ss = take n streams

  room : h.size + d ≤ settled_room
  room = underway_room ss d settled_room st step h s l over

  -- What the augmentation then needs.
  pub moving : (t : Tree) (ps : List ℕ) → grown_by true t ps ≡ sought (take n streams) st.flows st.nets st.potentials d s → Moving n st s d t
  moving t ps q = go (subst (Hunt max_units ss st.flows st.nets d s st.potentials) (sym q) (finds ss (solvable_of streams n w) d h.size step st h.sound room s l over))
    where
      size : (u : ℕ) → get_or st.nets u 0 ≤ 2 * net_shift
      size u = omega (arith, over_at st.nets u, h.sound.over)

      sized : (k : ℕ) → k < max_streams → SizeWithin settled_room (get_or st.flows k 0)
      sized = sound_within ss (solvable_of streams n w) d h.size step st h.sound (omega (arith, room))

      go : Hunt max_units ss st.flows st.nets d s st.potentials (grown_by true t ps) → Moving n st s d t
      go (stuck f m) = clash true refl f
      go (hit f m) = record {
        some = m.some;
        short = short;
        trail = record { short = omega (arith, short); within = λ k o. rw (in_use streams n w) at (m.grown.links k o).inside };
        roomy = record {
          long = h.sound.long;
          low = λ k o. omega (arith, (sized k o).1, short);
          high = λ k o. omega (arith, (sized k o).0, short);
        };
        shiftable = record {
          long = h.sound.netted;
          start = l;
          end = omega (arith, m.near);
          step = step.1;
          enough = omega (arith, over);
          most_start = size s;
          most_end = size (target t);
        };
      }
        where
          short : t.len < places
          short = omega (arith, m.grown.counted, count_most max_units (λ v. get_or t.visited v false))

  -- The potentials after the search are held, for compression.
  pub found_potentials : (t : Tree) (ps : List ℕ) → grown_by true t ps ≡ sought (take n streams) st.flows st.nets st.potentials d s → Potentials ps × (length ps ≡ places)
  found_potentials t ps q = go (subst (Hunt max_units ss st.flows st.nets d s st.potentials) (sym q) (finds ss (solvable_of streams n w) d h.size step st h.sound room s l over))
    where
      go : Hunt max_units ss st.flows st.nets d s st.potentials (grown_by true t ps) → Potentials ps × (length ps ≡ places)
      go (stuck f m) = clash true refl f
      go (hit f m) = (λ u o. omega (arith, h.sound.capped u o, m.rise u), m.long ∙ h.sound.per_place)

-- Settling, one stream of the array.
module _ (streams : List Stream) (n : ℕ) (ps xs : List ℕ) (i : ℕ) (l : i < n) where
  abbrev s : Stream
  s = get_or streams i no_stream

  abbrev ys : List ℕ
  ys = settled_to (take n streams) ps xs i

  settle_next : settled_to (take n streams) ps xs (i + 1) ≡ pick s.metered (set ys i (settled_of s (get_or ps s.from 0) (get_or ps s.to 0))) ys
  unfolding settled_to
  settle_next = rw (add-one, get_or-take n streams i no_stream l)

  -- One stream more is settled.
  pub settle_hit : s.metered ≡ true → settled_to (take n streams) ps xs (i + 1) ≡ set ys i (settled_of s (get_or ps s.from 0) (get_or ps s.to 0))
  settle_hit e = settle_next ∙ ap (λ (b : Bool). pick b (set ys i (settled_of s (get_or ps s.from 0) (get_or ps s.to 0))) ys) e

  -- Or is unmetered, and stays.
  pub settle_miss : s.metered ≡ false → settled_to (take n streams) ps xs (i + 1) ≡ ys
  settle_miss e = settle_next ∙ ap (λ (b : Bool). pick b (set ys i (settled_of s (get_or ps s.from 0) (get_or ps s.to 0))) ys) e

  -- Booking, one stream of the array.
  pub nets_next : nets_to (take n streams) xs (i + 1) ≡ booked (nets_to (take n streams) xs i) s (get_or xs i 0)
  unfolding nets_to
  nets_next = rw (add-one, get_or-take n streams i no_stream l)

-- No stream yet.
pub settle_none : (ss : List Stream) (ps xs : List ℕ) → settled_to ss ps xs 0 ≡ xs
unfolding settled_to
settle_none ss ps xs = refl

-- No stream is booked yet.
pub nets_none : (ss : List Stream) (xs : List ℕ) → nets_to ss xs 0 ≡ replicate places net_shift
unfolding nets_to
nets_none ss xs = refl

-- The summed positive net of the first n places.
unfoldable pub over_to : List ℕ → ℕ → ℕ
over_to es zero = 0
over_to es (suc n) = (get_or es n 0 - net_shift) + over_to es n

-- One place more is summed.
pub over_next : (es : List ℕ) (n : ℕ) → over_to es (n + 1) ≡ over_to es n + (get_or es n 0 - net_shift)
unfolding over_to
over_next es n = rw add-one (omega arith)

-- No place yet.
pub over_none : (es : List ℕ) → over_to es 0 ≡ 0
unfolding over_to
over_none es = refl

over_front : (e : ℕ) (es : List ℕ) (n : ℕ) → over_to (e ∷ es) (suc n) ≡ (e - net_shift) + over_to es n
unfolding over_to
over_front e es zero = refl
over_front e es (suc n) = omega (arith, over_front e es n)

-- All places.
pub over_all : (es : List ℕ) → over_to es (length es) ≡ excess_sum es
unfolding excess_sum
over_all [] = over_none []
over_all (e ∷ es) = over_front e es (length es) ∙ ap (λ (k : ℕ). (e - net_shift) + k) (over_all es)

-- The sum over n places fits.
pub over_to_most : (es : List ℕ) (b n : ℕ) → ((u : ℕ) → u < n → get_or es u 0 ≤ net_shift + b) → over_to es n ≤ b * n
unfolding over_to
over_to_most es b zero h = omega arith
over_to_most es b (suc n) h = omega (arith, h n (omega arith), over_to_most es b n (λ u l. h u (omega arith)))
