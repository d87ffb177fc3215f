-- A plant without ranges and the same plant in the ranged form have the same cheapest flows, and so the same sheets.
use mathlib.Core.Path.{◌≡◌, sym, ap, subst, ◌∙◌}
use mathlib.Core.Bool.{Bool, true, false}
use mathlib.Core.Logic.{inl, inr}
use mathlib.Core.List.{List}
use lib.IntN.{ℤ}
use Prim.Native.Nat.{ℕ, ◌≤◌, ◌<◌}
use native.Mathlib.Omega.{arith}
use native.Mathlib.Decide.{dec_le}
use lib.Dec.{eqb, ltb, leb}
use lib.ListN.{length, length-map}
use Rattle.num_bytes.specs.Choice.{refuse_if, first_of}
use Rattle.num_bytes.specs.Bytes.{over}
use Rattle.num_bytes.specs.Inner.{PickT}
use Rattle.num_bytes.proofs.Tests.{clash}
use Rattle.plant_def.specs.Plants.{Plant}
use Rattle.plant_def.specs.Files.{Got, got, read_plant, plant_bytes}
use Rattle.plant_def.specs.Within.{Within}
use Rattle.plant_def.proofs.Limited.{within}
use Rattle.plant_def.proofs.Accepted.{accepted}
use Rattle.flow_def.specs.Flows.{amount_at, balanced, in_range, allowed, cost, metered_of, not_after, Cheapest}
use Rattle.flow_def.specs.Overfull.{unmarked, Overfull}
use Rattle.flow_def.proofs.Nets.{count_of, stream_of, balanced_size}
use Rattle.flow_def.proofs.Ranges.{balanced_of, allowed_of}
use Rattle.flow_def.proofs.Overfull.{overfull_none}
use Rattle.flow_def.proofs.Decided.{Decided, solved, full}
use Rattle.solve_def.proofs.Theorem.{decided}
use Rattle.sheet_def.specs.declared.Sheet.{Sheet}
use Rattle.sheet_def.specs.Drawings.{sheet_of}
use Rattle.sheet_def.specs.Counters.{offices, top_sheet, counter_of, next_of, raised}
use Rattle.sheet_def.specs.Says.{Drawn, SheetWith, SheetSays}
use Rattle.sheet_def.specs.Totals.{least_slice}
use Rattle.sheet_def.specs.Sentences.{call_fault, Refused}
use Rattle.ranged_def.specs.Moves.{widened, forward}
use Rattle.ranged_def.specs.Trip.{rangeless}
use Rattle.ranged_def.proofs.Trip.{forward_read}
use Rattle.ranged_def.proofs.Faultless.{forward_good}
use Rattle.ranged_same_sheet.specs.Same.{MovedSheets}
use Rattle.ranged_same_sheet.proofs.Alike.{widened_keeps, moved_at, balanced_same, cost_same, metered_same, sheet_same}
use Rattle.ranged_same_sheet.proofs.Near.{most_cost, zero_flow, zero_most, zero_balanced, rangeless_at, any_amount, in_widest, near}

module _ (p : Plant) (w : Within p) (free : rangeless p.streams ≡ true) where
  abbrev q : Plant
  q = forward p

  costs : (xs : List ℤ) → cost q.streams xs ≡ cost p.streams xs
  costs xs = cost_same widened widened_keeps 1 p.streams xs

  -- Every balanced flow is in range, and in the ranged form every one that costs no more than the zero flow may.
  any_allowed : (xs : List ℤ) → balanced p xs ≡ true → allowed p xs ≡ true
  any_allowed xs b = allowed_of 1 p xs b (λ k l. any_amount (stream_of p k) (amount_at xs k) (rangeless_at p.streams free k l))

  allowed_back : (xs : List ℤ) → allowed q xs ≡ true → allowed p xs ≡ true
  allowed_back xs a = any_allowed xs (sym (balanced_same widened widened_keeps p xs) ∙ balanced_of 1 q xs a)

  allowed_forth : (xs : List ℤ) → allowed p xs ≡ true → cost p.streams xs ≤ most_cost → allowed q xs ≡ true
  allowed_forth xs a c = allowed_of 1 q xs (balanced_same widened widened_keeps p xs ∙ b) (λ k l. each k (omega (arith, length-map p.streams widened)))
    where
      b : balanced p xs ≡ true
      b = balanced_of 1 p xs a

      each : (k : ℕ) → k < count_of p → in_range 1 (stream_of q k) (amount_at xs k) ≡ true
      each k l =
          rw (moved_at widened widened_keeps p.streams k)
          (in_widest (stream_of p k) (amount_at xs k) (rangeless_at p.streams free k l) (near p w xs (balanced_size p xs b) c k l))

  zero_there : allowed p (zero_flow p) ≡ true
  zero_there = any_allowed (zero_flow p) (zero_balanced p)

  zero_forth : allowed q (zero_flow p) ≡ true
  zero_forth = allowed_forth (zero_flow p) zero_there (zero_most p w)

  -- The order of the metered amounts is the same.
  orders : (xs ys : List ℤ) → not_after (metered_of q.streams xs) (metered_of q.streams ys) ≡ not_after (metered_of p.streams xs) (metered_of p.streams ys)
  orders xs ys = λ i. not_after (metered_same widened widened_keeps p.streams xs i) (metered_same widened widened_keeps p.streams ys i)

  cheapest_forth : (xs : List ℤ) → Cheapest p xs → Cheapest q xs
  cheapest_forth xs c = record {
    balance = allowed_forth xs c.balance (omega (arith, c.least (zero_flow p) zero_there, zero_most p w));
    least = λ ys a. omega (arith, costs xs, costs ys, c.least ys (allowed_back ys a));
    tie = λ ys a e. orders xs ys ∙ c.tie ys (allowed_back ys a) (omega (arith, costs xs, costs ys, e));
  }

  cheapest_back : (xs : List ℤ) → Cheapest q xs → Cheapest p xs
  cheapest_back xs c = record {
    balance = allowed_back xs c.balance;
    least = λ ys a. elim (dec_le (cost p.streams ys) most_cost) [
      | yes h ↦ omega (arith, costs xs, costs ys, c.least ys (allowed_forth ys a h))
      | no h ↦ omega (arith, little)
    ];
    tie = λ ys a e. sym (orders xs ys) ∙ c.tie ys (allowed_forth ys a (omega (arith, e, little))) (omega (arith, costs xs, costs ys, e));
  }
    where
      little : cost p.streams xs ≤ most_cost
      little = omega (arith, c.least (zero_flow p) zero_forth, costs xs, costs (zero_flow p), zero_most p w)

  -- No set is overfull: the zero flow is in range.
  module _ {A : Type 0} (ms : List Bool) where
    none_full : Overfull p ms → A
    none_full m = clash (allowed p (zero_flow p)) zero_there (overfull_none p w ms m 1 (zero_flow p) (omega arith))

    none_forth : Within q → Overfull q ms → A
    none_forth v m = clash (allowed q (zero_flow p)) zero_forth (overfull_none q v ms m 1 (zero_flow p) (omega arith))

  some_flow : (xs : List ℤ) × Cheapest q xs
  some_flow = go (decided p w)
    where
      go : Decided p → (xs : List ℤ) × Cheapest q xs
      go (solved xs π c h) = (xs, cheapest_forth xs c)
      go (full ms m) = none_full ms m

  -- A sheet drawn of the one is a sheet drawn of the other.
  module _ (office : ℕ) (lasts o o' : List ℕ) (r : Sheet) where
    drawn_as : {u v : Plant} → ((xs : List ℤ) → Cheapest u xs → Cheapest v xs) → ((xs : List ℤ) → sheet_of office u xs (next_of office lasts) ≡ sheet_of office v xs (next_of office lasts))
        → Drawn u office lasts o o' r → Drawn v office lasts o o' r
    drawn_as h e d =
        let s = e d.0 in
        (d.0, h d.0 d.1, d.2 ∙ (λ i. record { number = 0; written = length (s i); lasts = raised office lasts; marked = unmarked }), d.3 ∙ ap (λ (l : List ℕ). over l o) s)

    sheets : (xs : List ℤ) → sheet_of office q xs (next_of office lasts) ≡ sheet_of office p xs (next_of office lasts)
    sheets xs = sheet_same widened widened_keeps p xs office (next_of office lasts)

    with_forth : SheetWith (got p) office lasts o o' r → SheetWith (got q) office lasts o o' r
    with_forth (inl d) = inl (drawn_as {u = p} {v = q} cheapest_forth (λ xs. sym (sheets xs)) d)
    with_forth (inr m) = none_full m.0 m.1

    with_back : Within q → SheetWith (got q) office lasts o o' r → SheetWith (got p) office lasts o o' r
    with_back v (inl d) = inl (drawn_as {u = q} {v = p} cheapest_back sheets d)
    with_back v (inr m) = none_forth m.0 v m.1

    with_sheet : SheetWith (got p) office lasts o o' r → r.number ≡ 19 → ⊥
    with_sheet (inl d) n = omega (arith, ap (λ (y : Sheet). y.number) d.2, n)
    with_sheet (inr m) n = none_full m.0 m.1

-- What a call says of two files follows from what it says of their plants.
picked_as : (b : Bool) (A B C : Type 0) → (A → B) → PickT b A C → PickT b B C
picked_as true A B C h s = h s
picked_as false A B C h s = s

says_as : (a b : List ℕ) (office : ℕ) (lasts o o' : List ℕ) (r : Sheet)
    → (SheetWith (read_plant a) office lasts o o' r → SheetWith (read_plant b) office lasts o o' r) → SheetSays a office lasts o o' r → SheetSays b office lasts o o' r
says_as a b office lasts o o' r =
    picked_as (eqb (call_fault office lasts o) 0) (SheetWith (read_plant a) office lasts o o' r) (SheetWith (read_plant b) office lasts o o' r) (Refused (call_fault office lasts o) lasts o o' r)

-- 19 is neither a refusal of the call itself nor a sheet.
call_faults : (b c d : Bool) → first_of (refuse_if b 1) (first_of (refuse_if c 22) (refuse_if d 2)) ≡ 19 → ⊥
call_faults true c d e = omega arith
call_faults false true d e = omega arith
call_faults false false true e = omega arith
call_faults false false false e = omega arith

never : (b : Bool) (A : Type 0) (f : ℕ) (lasts o o' : List ℕ) (r : Sheet) → (f ≡ 19 → ⊥) → (A → r.number ≡ 19 → ⊥) → PickT b A (Refused f lasts o o' r) → r.number ≡ 19 → ⊥
never true A f lasts o o' r l h s n = h s n
never false A f lasts o o' r l h s n = l (sym (ap (λ (y : Sheet). y.number) s.0) ∙ n)

-- What a call says of a file, of the plant that it is read as.
abbrev Said : ℕ → List ℕ → List ℕ → List ℕ → Sheet → Got → Type 0
Said office lasts o o' r g = SheetWith g office lasts o o' r

never_19 : (file : List ℕ) (p : Plant) → read_plant file ≡ got p → Within p → rangeless p.streams ≡ true
    → (office : ℕ) (lasts o o' : List ℕ) (r : Sheet) → SheetSays file office lasts o o' r → r.number ≡ 19 → ⊥
never_19 file p e w free office lasts o o' r =
    never (eqb (call_fault office lasts o) 0) (SheetWith (read_plant file) office lasts o o' r) (call_fault office lasts o) lasts o o' r
    (call_faults (ltb (length o) least_slice) (leb offices office) (eqb (counter_of office lasts) top_sheet))
    (λ s. with_sheet p w free office lasts o o' r (subst (Said office lasts o o' r) e s))

-- A plant without ranges has the same sheets in the ranged form.
pub moved_sheets : MovedSheets
moved_sheets file p e free = record {
  read = there;
  some = some_flow p w free;
  same = λ office lasts o o' r. (
    says_as file (plant_bytes (forward p)) office lasts o o' r (λ s. subst (Said office lasts o o' r) (sym there) (with_forth p w free office lasts o o' r (subst (Said office lasts o o' r) e s))),
    says_as (plant_bytes (forward p)) file office lasts o o' r (λ s. subst (Said office lasts o o' r) (sym e) (with_back p w free office lasts o o' r v (subst (Said office lasts o o' r) there s))),
  );
  sheet = λ office lasts o o' r s n. never_19 file p e w free office lasts o o' r s n;
}
  where
    w : Within p
    w = within p (accepted file p e).0

    v : Within (forward p)
    v = within (forward p) (forward_good p (accepted file p e).0)

    there : read_plant (plant_bytes (forward p)) ≡ got (forward p)
    there = forward_read file p e
