-- Writing from parts and reading into them undo each other.
use mathlib.Core.Path.{◌≡◌, refl, sym, ap, ap₂, ◌∙◌, subst}
use mathlib.Core.Bool.{Bool, true, false, not}
use mathlib.Core.List.{List, [], ◌∷◌, ◌++◌, map}
use lib.IntN.{pos}
use Prim.Native.Nat.{ℕ, ◌-◌, ◌≤◌, ◌<◌}
use native.Mathlib.Omega.{arith}
use borrow.Author.Tests.{lt-ltb, le-ltb}
use lib.Dec.{eqb, ltb}
use lib.ListN.{length, get_or, take, drop, length-append, length-map, get_or-append}
use lib.Seq.{ext_get_or}
use Rattle.num_bytes.specs.Choice.{pick, refuse_if, first_of}
use Rattle.num_bytes.specs.Bytes.{over, all_bytes}
use Rattle.num_bytes.specs.Inner.{values}
use Rattle.num_bytes.proofs.Tests.{by_cases, clash, and_both, first_none_right}
use Rattle.num_bytes.proofs.Lists.{map_at, values_long, values_at}
use Rattle.plant_def.specs.declared.Stream.{Stream}
use Rattle.plant_def.specs.Results.{Done}
use Rattle.plant_def.specs.Limits.{max_streams, longest_file}
use Rattle.plant_def.specs.Plants.{Plant, no_stream, plain, parts_fault}
use Rattle.plant_def.specs.Files.{Got, bad, got, read_plant, plant_bytes}
use Rattle.plant_def.specs.Says.{Written, file_number}
use Rattle.plant_def.proofs.Back.{round_trip}
use Rattle.plant_def.proofs.Refusals.{file_refusals}
use Rattle.plant_parts.specs.Parts.{Slices, parts_at, reaches, handed, HandedWritten}
use Rattle.plant_lent.specs.Lent.{laid, plant_shown, PlantFound}
use Rattle.plant_lent.specs.Trip.{PartsTrip}

-- An element of streams' parts at the front of a slice,
part_at : {B : Type 0} (f : Stream → B) (ss : List Stream) (ys : List B) (k : ℕ) (d : B) → k < length ss
    → get_or (over (map f ss) ys) k d ≡ f (get_or ss k no_stream)
part_at f ss ys k d h = get_or-append (map f ss) (drop (length (map f ss)) ys) d k (omega (arith, length-map ss f)) ∙ map_at f ss k d no_stream h

-- which is reached.
part_there : {B : Type 0} (f : Stream → B) (ss : List Stream) (ys : List B) (k : ℕ) → k < length ss → ltb k (length (over (map f ss) ys)) ≡ true
part_there f ss ys k h =
    lt-ltb k (length (over (map f ss) ys)) (omega (arith, length-append (map f ss) (drop (length (map f ss)) ys), length-map ss f))

told_back : (b : Bool) → not (eqb (pick {A = ℕ} b 1 0) 0) ≡ b
told_back true = refl
told_back false = refl

module _ (ss : List Stream) (p : Slices) (k : ℕ) (h : k < length ss) where
  all_there : reaches (laid ss p) k ≡ true
  all_there =
      and_both _ _
      (and_both _ _ (part_there (λ s. s.from) ss p.from k h)
      (and_both _ _ (part_there (λ s. s.to) ss p.to k h)
      (and_both _ _ (part_there (λ s. pick {A = ℕ} s.metered 1 0) ss p.metered k h)
      (and_both _ _ (part_there (λ s. s.weight) ss p.weight k h) (part_there (λ s. s.reading) ss p.reading k h)))))
      (and_both _ _ (part_there (λ s. pick {A = ℕ} s.ranged 1 0) ss p.ranged k h)
      (and_both _ _ (part_there (λ s. s.low) ss p.low k h) (part_there (λ s. s.high) ss p.high k h)))

  parts_back : parts_at (laid ss p) k ≡ get_or ss k no_stream
  parts_back =
      let s = get_or ss k no_stream in
      let told : (f : Stream → Bool) (ys : List ℕ) → not (eqb (get_or (over (map (λ s. pick {A = ℕ} (f s) 1 0) ss) ys) k 0) 0) ≡ f s =
      λ f ys. ap (λ (x : ℕ). not (eqb x 0)) (part_at (λ s. pick {A = ℕ} (f s) 1 0) ss ys k 0 h) ∙ told_back (f s) in
      λ i. record {
        from = part_at (λ s. s.from) ss p.from k 0 h i;
        to = part_at (λ s. s.to) ss p.to k 0 h i;
        metered = told (λ s. s.metered) p.metered i;
        weight = part_at (λ s. s.weight) ss p.weight k 0 h i;
        reading = part_at (λ s. s.reading) ss p.reading k (pos 0) h i;
        ranged = told (λ s. s.ranged) p.ranged i;
        low = part_at (λ s. s.low) ss p.low k (pos 0) h i;
        high = part_at (λ s. s.high) ss p.high k (pos 0) h i;
      }

  handed_back : handed (laid ss p) k ≡ get_or ss k no_stream
  handed_back = ap (λ (b : Bool). pick b (parts_at (laid ss p) k) no_stream) all_there ∙ parts_back

-- Streams laid into slices are the streams that are handed over in them.
laid_back : (ss : List Stream) (p : Slices) → values (length ss) (handed (laid ss p)) ≡ ss
laid_back ss p =
    let long = values_long (handed (laid ss p)) (length ss) in
    ext_get_or no_stream (values (length ss) (handed (laid ss p))) ss long
    (λ k l. let m : k < length ss = omega (arith, l, long) in values_at (handed (laid ss p)) no_stream (length ss) k m ∙ handed_back ss p k m)

-- What is found: the number, the units, the count, the slices.
abbrev Shown : Type 0
Shown = ℕ × ℕ × ℕ × Slices

-- Where the slices have room, what is found is what the file's reading shows.
found_is : (file : List ℕ) (q : Slices) (found : Shown) → reaches q (max_streams - 1) ≡ true → PlantFound file q found → found ≡ plant_shown q (read_plant file)
found_is file q found h x = x.handed ∙ ap (plant_shown q) (x.enough h)

-- Elements laid over the front of a slice, taken from it.
take_over : (xs o : List ℕ) → take (length xs) (over xs o) ≡ xs
take_over xs o = go xs (drop (length xs) o)
  where
    go : (xs ys : List ℕ) → take (length xs) (xs ++ ys) ≡ xs
    go [] ys = refl
    go (x ∷ xs) ys = ap (λ (l : List ℕ). x ∷ l) (go xs ys)

-- A plant that is written without a refusal.
module _ (n c : ℕ) (p : Slices) (o o' : List ℕ) (r : Done) (w : HandedWritten n c p o o' r) (z : r.number ≡ 0) where
  abbrev ss : List Stream
  ss = values c (handed p)

  abbrev plant : Plant
  plant = record { units = n; streams = ss }

  abbrev fault : ℕ
  fault = first_of (refuse_if (ltb (length o) longest_file) 1) (parts_fault n c ss)

  no_fault : fault ≡ 0
  no_fault = sym (ap (λ (y : Done). y.number) w.0) ∙ z

  parts_good : parts_fault n c ss ≡ 0
  parts_good = first_none_right (refuse_if (ltb (length o) longest_file) 1) (parts_fault n c ss) no_fault

  written_whole : (r ≡ record { number = 0; written = length (plant_bytes plant) }) × (o' ≡ over (plant_bytes plant) o)
  written_whole = subst (λ (f : ℕ). Written f (plant_bytes plant) o o' r) no_fault w

  its_file : take r.written o' ≡ plant_bytes plant
  its_file =
      let e = ap (λ (y : Done). y.written) written_whole.0 in
      ap₂ (λ (k : ℕ) (xs : List ℕ). take k xs) e written_whole.1 ∙ take_over (plant_bytes plant) o

  read_again : plain ss ≡ true → read_plant (take r.written o') ≡ got plant
  read_again a =
      ap read_plant its_file
      ∙ round_trip.there plant (subst (λ (k : ℕ). parts_fault n k ss ≡ 0) (sym (values_long (handed p) c)) parts_good) a

  -- It is read as its parts.
  written_read : plain ss ≡ true → (q q' : Slices) (number units count : ℕ) → reaches q (max_streams - 1) ≡ true
      → PlantFound (take r.written o') q (number, units, count, q')
      → (number ≡ 0) × (units ≡ n) × (count ≡ c) × (values c (handed q') ≡ ss)
  written_read a q q' number units count h x =
      let long = values_long (handed p) c in
      let e : ◌≡◌ {A = Shown} (number, units, count, q') (0, n, length ss, laid ss q) =
      found_is (take r.written o') q (number, units, count, q') h x ∙ ap (plant_shown q) (read_again a) in (
        ap (λ (y : Shown). y.0) e,
        ap (λ (y : Shown). y.1) e,
        ap (λ (y : Shown). y.2) e ∙ long,
        ap (λ (y : Shown). values c (handed y.3)) e ∙ ap (λ (k : ℕ). values k (handed (laid ss q))) (sym long) ∙ laid_back ss q,
      )

-- A file that is read into slices, and written from them.
module _ (file : List ℕ) (p p' : Slices) (units count : ℕ) (b : all_bytes file ≡ true) (o o' : List ℕ) (r : Done) (room : longest_file ≤ length o)
    (w : HandedWritten units count p' o o' r) where
  -- The plant that it lists.
  of_plant : (q : Plant) → read_plant file ≡ got q → ◌≡◌ {A = Shown} (0, units, count, p') (plant_shown p (got q))
      → (r ≡ record { number = 0; written = length file }) × (o' ≡ over file o)
  of_plant q g e =
      let ss = q.streams in
      let back = round_trip.back file q b g in
      let same : values count (handed p') ≡ ss =
      ap (λ (y : Shown). values y.2 (handed y.3)) e ∙ laid_back ss p in
      let parts : parts_fault units count (values count (handed p')) ≡ 0 =
      ap (λ (y : Shown). parts_fault y.1 y.2 (values y.2 (handed y.3))) e ∙ ap (parts_fault q.units (length ss)) (laid_back ss p) ∙ back.1 in
      let bytes : plant_bytes (record { units = units; streams = values count (handed p') }) ≡ file =
      ap₂ (λ (n : ℕ) (xs : List Stream). plant_bytes (record { units = n; streams = xs })) (ap (λ (y : Shown). y.1) e) same ∙ back.0 in
      let none : first_of (refuse_if (ltb (length o) longest_file) 1) (parts_fault units count (values count (handed p'))) ≡ 0 =
      ap (λ (t : Bool). first_of (refuse_if t 1) (parts_fault units count (values count (handed p')))) (le-ltb (length o) longest_file room) ∙ parts in
      subst (λ (bs : List ℕ). Written 0 bs o o' r) bytes
      (subst (λ (f : ℕ). Written f (plant_bytes (record { units = units; streams = values count (handed p') })) o o' r) none w)

  -- By its reading: a refusal has a number.
  by_reading : (g : Got) → read_plant file ≡ g → ◌≡◌ {A = Shown} (0, units, count, p') (plant_shown p g)
      → (r ≡ record { number = 0; written = length file }) × (o' ≡ over file o)
  by_reading (bad f) g e = let z : 0 ≡ f = ap (λ (y : Shown). y.0) e in absurd (clash (file_number 0) (ap file_number z ∙ file_refusals file f g) refl)
  by_reading (got q) g e = of_plant q g e

  read_written : PlantFound file p (0, units, count, p') → (r ≡ record { number = 0; written = length file }) × (o' ≡ over file o)
  read_written x =
      by_cases (reaches p (max_streams - 1))
      (λ t. by_reading (read_plant file) refl (found_is file p (0, units, count, p') t x))
      (λ t. let z : ◌≡◌ {A = ℕ} 0 1 = ap (λ (y : Shown). y.0) (x.handed ∙ ap (plant_shown p) (x.short (λ h. clash (reaches p (max_streams - 1)) h t))) in
      absurd (omega arith))

-- Every reading has an answer.
some_found : (file : List ℕ) (p : Slices) → (found : Shown) × PlantFound file p found
some_found file p = go (reaches p (max_streams - 1)) refl
  where
    go : (b : Bool) → reaches p (max_streams - 1) ≡ b → (found : Shown) × PlantFound file p found
    go true t = (
      plant_shown p (read_plant file),
      record { made = read_plant file; enough = λ h. refl; short = λ h. absurd (h t); handed = refl },
    )
    go false t = (plant_shown p (bad 1), record { made = bad 1; enough = λ h. absurd (clash (reaches p (max_streams - 1)) h t); short = λ h. refl; handed = refl })

-- All that is promised of the two calls together holds.
pub parts_trip : PartsTrip
parts_trip = record {
  there = λ n c p o o' r a w z. written_read n c p o o' r w z a;
  back = λ file p p' units count b x o o' r room w. read_written file p p' units count b o o' r room w x;
  some = some_found;
}
