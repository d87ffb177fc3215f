-- There and home: the plants that are written are plant files, and a file without ranges comes back byte for byte.
use mathlib.Core.Path.{◌≡◌, refl, ap, ap₂, subst, ◌∙◌}
use mathlib.Core.Bool.{Bool, true, false, not}
use mathlib.Core.List.{List, [], ◌∷◌, ◌++◌, map}
use Prim.Native.Nat.{ℕ, ◌≤◌}
use lib.Dec.{eqb}
use lib.ListN.{length, take, drop, length-map}
use lib.Seq.{take_at}
use native.Mathlib.Omega.{arith}
use borrow.Author.Tests.{not-true, eq-eqb}
use Rattle.num_bytes.specs.Bytes.{all_bytes, over}
use Rattle.num_bytes.specs.Choice.{pick}
use Rattle.num_bytes.proofs.Tests.{by_cases, and_left, and_right}
use Rattle.plant_def.specs.declared.Stream.{Stream}
use Rattle.plant_def.specs.Results.{Done}
use Rattle.plant_def.specs.Limits.{longest_file, site_kind, end_kind}
use Rattle.plant_def.specs.Plants.{Plant, limited}
use Rattle.plant_def.specs.Files.{Got, bad, got, read_plant, stream_bytes, streams_bytes, plant_bytes}
use Rattle.plant_def.proofs.Accepted.{accepted}
use Rattle.plant_def.proofs.There.{there}
use Rattle.plant_def.proofs.Back.{back}
use Rattle.plant_def.specs.Converts.{Converts}
use Rattle.plant_def.proofs.Promise.{converted}
use Rattle.ranged_def.specs.Moves.{widened, bared, narrower, narrow_fault, moved, forward, home, to_ranged, from_ranged, ToSays, FromSays}
use Rattle.ranged_def.specs.Trip.{rangeless, Moving}
use Rattle.ranged_def.proofs.Faultless.{forward_good, home_good, widened_plain, bared_plain, moved_plain}

-- What is moved is read as it was written.
module _ (file : List ℕ) (p : Plant) (e : read_plant file ≡ got p) where
  -- In the ranged form,
  pub forward_read : read_plant (plant_bytes (forward p)) ≡ got (forward p)
  forward_read = let a = accepted file p e in there (forward p) (forward_good p a.0) (moved_plain widened widened_plain p.streams a.1)

  -- and moved home.
  pub home_read : read_plant (plant_bytes (home p)) ≡ got (home p)
  home_read = let a = accepted file p e in there (home p) (home_good p a.0) (moved_plain bared bared_plain p.streams a.1)

forth_read : (file : List ℕ) (g : Got) → read_plant file ≡ g → (q : Plant) → to_ranged g ≡ got q → read_plant (plant_bytes q) ≡ got q
forth_read file (bad f) e q d = absurd (let z : ◌≡◌ {A = ℕ} 0 1 = cc in omega arith)
forth_read file (got p) e q d = let k : forward p ≡ q = cc in subst (λ (t : Plant). read_plant (plant_bytes t) ≡ got t) k (forward_read file p e)

back_read : (file : List ℕ) (g : Got) → read_plant file ≡ g → (q : Plant) → from_ranged g ≡ got q → read_plant (plant_bytes q) ≡ got q
back_read file (bad f) e q d = absurd (let z : ◌≡◌ {A = ℕ} 0 1 = cc in omega arith)
back_read file (got p) e q d = go (eqb (narrow_fault p.streams) 0) d
  where
    go : (b : Bool) → pick b (got (home p)) (bad (narrow_fault p.streams)) ≡ got q → read_plant (plant_bytes q) ≡ got q
    go true w = let k : home p ≡ q = cc in subst (λ (t : Plant). read_plant (plant_bytes t) ≡ got t) k (home_read file p e)
    go false w = absurd (let z : ◌≡◌ {A = ℕ} 0 1 = cc in omega arith)

-- A stream without a range, moved, has no narrower range, and home again it has its bytes.
wide_now : (s : Stream) → not (limited s) ≡ true → narrower (widened s) ≡ false
wide_now s h = by_cases s.metered (λ m. let r : s.ranged ≡ false = rw m at (not-true (limited s) h) in rw (m, r)) (λ m. rw m)

bytes_back : (s : Stream) → not (limited s) ≡ true → stream_bytes (bared (widened s)) ≡ stream_bytes s
bytes_back s h = by_cases s.metered (λ m. let r : s.ranged ≡ false = rw m at (not-true (limited s) h) in rw (m, r)) (λ m. rw m)

none_narrow : (ss : List Stream) → rangeless ss ≡ true → narrow_fault (map widened ss) ≡ 0
none_narrow [] h = refl
none_narrow (s ∷ ss) h =
    rw (wide_now s (and_left (not (limited s)) (rangeless ss) h)) (none_narrow ss (and_right (not (limited s)) (rangeless ss) h))

streams_back : (ss : List Stream) → rangeless ss ≡ true → streams_bytes (map bared (map widened ss)) ≡ streams_bytes ss
streams_back [] h = refl
streams_back (s ∷ ss) h =
    ap₂ ◌++◌ (bytes_back s (and_left (not (limited s)) (rangeless ss) h)) (streams_back ss (and_right (not (limited s)) (rangeless ss) h))

plant_back : (p : Plant) → rangeless p.streams ≡ true → plant_bytes (home (forward p)) ≡ plant_bytes p
plant_back p h =
    let b = streams_back p.streams h in
    let n : length (map bared (map widened p.streams)) ≡ length p.streams = length-map (map widened p.streams) bared ∙ length-map p.streams widened in
    λ i. site_kind ∷ p.units ∷ b i ++ (end_kind ∷ n i ∷ [])

-- The way home of what was moved there.
home_again : (p : Plant) → rangeless p.streams ≡ true → from_ranged (got (forward p)) ≡ got (home (forward p))
home_again p h = simp (eq-eqb (narrow_fault (map widened p.streams)) 0 (none_narrow p.streams h))

trip : (file : List ℕ) (p : Plant) → all_bytes file ≡ true → read_plant file ≡ got p → rangeless p.streams ≡ true
    → (o o' u u' : List ℕ) (r q : Done) → longest_file ≤ length o → longest_file ≤ length u
    → ToSays file o o' r → FromSays (take r.written o') u u' q
    → (q ≡ record { number = 0; written = length file }) × (u' ≡ over file u)
trip file p a e h o o' u u' r q l m s t =
    let there = converted (forward p) o o' r l (subst (λ (g : Got). Converts (to_ranged g) o o' r) e s) in
    let b = plant_bytes (forward p) in
    let bytes : take r.written o' ≡ b =
    ap (λ (y : Done). take y.written o') there.0 ∙ ap (take (length b)) there.1 ∙ take_at b (drop (length b) o) (length b) refl in
    let read : from_ranged (read_plant (take r.written o')) ≡ got (home (forward p)) =
    ap (λ (x : List ℕ). from_ranged (read_plant x)) bytes ∙ ap from_ranged (forward_read file p e) ∙ home_again p h in
    let again = converted (home (forward p)) u u' q m (subst (λ (g : Got). Converts g u u' q) read t) in
    let same : plant_bytes (home (forward p)) ≡ file = plant_back p h ∙ back file p a e in (
      again.0 ∙ (λ i. record { number = 0; written = length (same i) }),
      again.1 ∙ ap (λ (x : List ℕ). over x u) same,
    )

-- Both moves write plant files, and a file without ranges comes home byte for byte.
pub moving : Moving
moving = record {
  forth = λ file p. forth_read file (read_plant file) refl p;
  back = λ file p. back_read file (read_plant file) refl p;
  trip = trip;
}
