-- A plant's parts handed over: the reading by the room of the slices, and what is found in them.
use mathlib.Core.Path.{◌≡◌, refl, sym, ap, ◌∙◌}
use mathlib.Core.Bool.{Bool, true, false}
use mathlib.Core.List.{List}
use Prim.Native.Nat.{ℕ, ◌-◌, ◌≤◌}
use native.Mathlib.Omega.{arith}
use borrow.Author.Tests.{lt-ltb, ltb-true, ltb-false}
use lib.Dec.{ltb}
use lib.ListN.{length, take}
use Rattle.num_bytes.specs.Choice.{pick}
use Rattle.num_bytes.proofs.Filled.{take_filled}
use Rattle.plant_def.specs.declared.Stream.{Stream}
use Rattle.plant_def.specs.Results.{Read}
use Rattle.plant_def.specs.Limits.{max_streams}
use Rattle.plant_def.specs.Plants.{no_stream}
use Rattle.plant_def.specs.Files.{Got, bad, got, read_plant}
use Rattle.plant_def.specs.Says.{read_of}
use Rattle.plant_def.proofs.Accepted.{read_within}
use Rattle.plant_parts.specs.Parts.{Slices, reach, reaches}
use Rattle.plant_parts.proofs.Gather.{Reached, reached, reaches_is}
use Rattle.plant_lent.specs.Lent.{laid, plant_shown, PlantFound}
use Rattle.plant_lent.specs.Inner.{read_lent}

-- No more streams are read than there may be.
few_read : (file : List ℕ) (g : Got) → read_plant file ≡ g → (read_of g).plant.count ≤ max_streams
few_read file (bad f) e = omega arith
few_read file (got q) e = (read_within file q e).few_streams

few_lent : (b : Bool) (g : Got) (n : ℕ) (y : Read) → (read_of g).plant.count ≤ max_streams → ltb n max_streams ≡ b → y ≡ read_of (pick b (bad 1) g)
    → (y.plant.count ≤ max_streams) × (y.plant.count ≤ n)
few_lent true g n y few t e = let z : y.plant.count ≡ 0 = ap (λ (x : Read). x.plant.count) e in (omega arith, omega arith)
few_lent false g n y few t e =
    let z : y.plant.count ≡ (read_of g).plant.count = ap (λ (x : Read). x.plant.count) e in
    let l = ltb-false n max_streams t in
    (omega arith, omega arith)

-- What was read has room in every slice.
pub room_lent : (file : List ℕ) (p : Slices) (n : ℕ) (y : Read) → n ≡ reach p → y ≡ read_of (read_lent file n) → Reached p y.plant.count
room_lent file p n y e d =
    let r = reached p n e in
    let few = few_lent (ltb n max_streams) (read_plant file) n y (few_read file (read_plant file) refl) refl d in
    let c = few.1 in
    record {
      room = few.0;
      from_there = omega (arith, c, r.from_there);
      to_there = omega (arith, c, r.to_there);
      metered_there = omega (arith, c, r.metered_there);
      weight_there = omega (arith, c, r.weight_there);
      reading_there = omega (arith, c, r.reading_there);
      ranged_there = omega (arith, c, r.ranged_there);
      low_there = omega (arith, c, r.low_there);
      high_there = omega (arith, c, r.high_there);
    }

-- The slices hold as many as there may be where every slice reaches so many,
room_told : (p : Slices) (n : ℕ) → n ≡ reach p → ltb n max_streams ≡ false → reaches p (max_streams - 1) ≡ true
room_told p n e t = sym (reaches_is p (max_streams - 1) (omega arith)) ∙ lt-ltb (max_streams - 1) (reach p) (omega (arith, e, ltb-false n max_streams t))

-- and only there.
room_not : (p : Slices) (n : ℕ) → n ≡ reach p → ltb n max_streams ≡ true → reaches p (max_streams - 1) ≡ true → ⊥
room_not p n e t h =
    let l = ltb-true (max_streams - 1) (reach p) (reaches_is p (max_streams - 1) (omega arith) ∙ h) in
    let s = ltb-true n max_streams t in
    omega (arith, e, l, s)

-- What a reading shows, by the array that it is handed over in.
shown : (p : Slices) (g : Got) (y : Read) → (read_of g).plant.count ≤ max_streams → y ≡ read_of g
    → (y.number, y.plant.units, y.plant.count, laid (take y.plant.count y.plant.streams) p) ≡ plant_shown p g
shown p (bad f) y few e = λ i. let x = e i in (x.number, x.plant.units, x.plant.count, laid (take x.plant.count x.plant.streams) p)
shown p (got q) y few e =
    (λ i. let x = e i in (x.number, x.plant.units, x.plant.count, laid (take x.plant.count x.plant.streams) p))
    ∙ ap (λ (ss : List Stream). (0, q.units, length q.streams, laid ss p)) (take_filled no_stream max_streams q.streams few)

-- What is found after the call, the slices holding what was read.
pub found_lent : (file : List ℕ) (p q : Slices) (n : ℕ) (y : Read) → n ≡ reach p → y ≡ read_of (read_lent file n)
    → q ≡ laid (take y.plant.count y.plant.streams) p → PlantFound file p (y.number, y.plant.units, y.plant.count, q)
found_lent file p q n y e d f = go (ltb n max_streams) refl d
  where
    found : ℕ × ℕ × ℕ × Slices
    found = (y.number, y.plant.units, y.plant.count, q)

    as_read : found ≡ (y.number, y.plant.units, y.plant.count, laid (take y.plant.count y.plant.streams) p)
    as_read = ap (λ (q : Slices). (y.number, y.plant.units, y.plant.count, q)) f

    go : (b : Bool) → ltb n max_streams ≡ b → y ≡ read_of (pick b (bad 1) (read_plant file)) → PlantFound file p found
    go true t d = record {
      made = bad 1;
      enough = λ h. absurd (room_not p n e t h);
      short = λ h. refl;
      handed = as_read ∙ shown p (bad 1) y (omega arith) d;
    }
    go false t d = record {
      made = read_plant file;
      enough = λ h. refl;
      short = λ h. absurd (h (room_told p n e t));
      handed = as_read ∙ shown p (read_plant file) y (few_read file (read_plant file) refl) d;
    }
