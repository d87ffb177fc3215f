-- Of every call: the refusal, or a sheet that tells what it has to. The demands.
use mathlib.Core.Path.{◌≡◌, refl, sym, ap, ◌∙◌, subst}
use mathlib.Core.Bool.{Bool, true, false}
use mathlib.Core.Logic.{◌⊎◌, inl, inr, ⊎_elim}
use mathlib.Core.List.{List}
use lib.IntN.{ℤ}
use Prim.Native.Nat.{ℕ, ◌^◌, ◌≤◌, ◌<◌}
use native.Mathlib.Omega.{arith}
use borrow.Author.Tests.{eqb-true, eqb-false}
use lib.Dec.{eqb}
use lib.ListN.{length, get_or, take, drop}
use lib.Seq.{drop-append_seam, take_at}
use Rattle.num_bytes.specs.Bytes.{over}
use Rattle.num_bytes.specs.Inner.{PickT}
use Rattle.num_bytes.proofs.Tests.{by_cases, clash}
use Rattle.num_bytes.proofs.Parts.{laid, same_length}
use Rattle.plant_def.specs.declared.Plant as Arrays
use Rattle.plant_def.specs.Plants.{Plant}
use Rattle.plant_def.specs.Files.{Got, bad, got, read_plant}
use Rattle.plant_def.specs.Says.{arrayed}
use Rattle.plant_def.specs.Within.{Within, Accepted}
use Rattle.plant_def.proofs.Limited.{within}
use Rattle.plant_def.proofs.Accepted.{accepted, refused}
use Rattle.plant_def.proofs.Arrayed.{read_accepted, read_held}
use Rattle.plant_def.proofs.Back.{round_trip}
use Rattle.flow_def.specs.Flows.{amount_at, allowed, Cheapest}
use Rattle.flow_def.specs.Chains.{every_stream, unmetered_only}
use Rattle.flow_def.specs.Shown.{Shown, Demand3}
use Rattle.flow_def.specs.Overfull.{unmarked, Overfull, Refusal19}
use Rattle.flow_def.proofs.Grouping.{one_pass}
use Rattle.flow_def.proofs.Overfull.{overfull_none}
use Rattle.solve_def.specs.declared.Solved.{Solved}
use Rattle.solve_def.specs.Promise.{flow_of, Solution, Right}
use Rattle.solve_def.proofs.Amounts.{opened_at}
use Rattle.sheet_def.specs.declared.Sheet.{Sheet}
use Rattle.sheet_def.specs.Sentences.{call_fault, Refused, Overfilled, Full, Tells, Answers}
use Rattle.sheet_def.specs.Totals.{total_kind}
use Rattle.sheet_def.specs.Counters.{top_sheet, counter_of, next_of, raised}
use Rattle.sheet_def.specs.Drawings.{plant_parts, sheet_of}
use Rattle.sheet_def.specs.Says.{Drawn, SheetWith, SheetSays}
use Rattle.sheet_def.specs.Sheets.{SheetParts}
use Rattle.sheet_def.specs.Kept.{some_sheet, read_sheet}
use Rattle.sheet_def.specs.Demands.{Demands}
use Rattle.sheet_def.specs.Calls.{Small}
use Rattle.sheet_def.proofs.Opening.{right_found, right_overfull, held_amounts, opened_small}
use Rattle.sheet_def.proofs.Laying.{sheet_most}
use Rattle.sheet_def.proofs.Promise.{long_enough, has_counter, one_left, call_faulty, call_taken, call_read}
use Rattle.sheet_def.proofs.Unique.{amount_same, never_both, no_choice}
use Rattle.sheet_def.proofs.Unfit.{reopening}
use Rattle.sheet_def.proofs.ReadAgain.{read_back}
use Rattle.sheet_def.proofs.DeskTool.{desk_tool}
use Rattle.sheet_def.proofs.Telling.{Sized, told, tells}

-- The numbers of a cheapest flow that are shown are those of the solver's, which are small.
module _ (file : List ℕ) (p : Plant) (e : read_plant file ≡ got p) (s : Solved) (r : Right (arrayed p) s) where
  within_limits : Within p
  within_limits = within p (accepted file p e).0

  amount_small : Solution (arrayed p) s → (k : ℕ) → k < length p.streams → Small (amount_at (flow_of (arrayed p) s) k)
  amount_small q k h =
      let f = within_limits.few_streams in
      let l = q.long in
      rw (opened_at (length p.streams) s.flows k (omega arith) h) (opened_small (get_or s.flows k 0) (held_amounts (arrayed p) s q k (omega arith)))

  -- With a flow in range the solver has found one.
  solution : (xs : List ℤ) → Cheapest p xs → Solution (arrayed p) s
  solution xs c = by_cases s.found (λ t. right_found (arrayed p) s r t)
      (λ t. never_both p within_limits xs c s.marked (subst (λ (q : Plant). Overfull q s.marked) (read_held file p e) (right_overfull (arrayed p) s r t)))

  -- A cheapest flow carries amounts that a sheet holds.
  pub sized : (xs : List ℤ) → Cheapest p xs → Sized p xs
  sized xs c k h n =
      let q = solution xs c in
      let solved : Cheapest p (flow_of (arrayed p) s) = subst (λ (q : Plant). Cheapest q (flow_of (arrayed p) s)) (read_held file p e) q.cheapest in
      rw (amount_same p within_limits xs (flow_of (arrayed p) s) c solved k h n) (amount_small q k h)

-- The bytes that a call wrote are the sheet's.
bytes_written : (p : Plant) (office : ℕ) (lasts o o' : List ℕ) (r : Sheet) (d : Drawn p office lasts o o' r)
    → take r.written o' ≡ sheet_of office p d.0 (next_of office lasts)
bytes_written p office lasts o o' r d =
    let sheet = sheet_of office p d.0 (next_of office lasts) in
    ap (λ (y : Sheet). take y.written o') d.2 ∙ ap (take (length sheet)) d.3 ∙ take_at sheet (drop (length sheet) o) (length sheet) refl

-- A sheet drawn reads back as its parts.
parts_read : (p : Plant) → Within p → (office : ℕ) (lasts o o' : List ℕ) (r : Sheet) (d : Drawn p office lasts o o' r) → Sized p d.0
    → counter_of office lasts ≤ top_sheet → call_fault office lasts o ≡ 0
    → read_sheet (take r.written o') ≡ some_sheet (plant_parts office p d.0 (next_of office lasts))
parts_read p w office lasts o o' r d sized top f =
    let small : next_of office lasts < 256 ^ 4 = let q = one_left office lasts o f in omega (arith, q) in
    ap read_sheet (bytes_written p office lasts o o' r d)
    ∙ read_back p w d.0 d.1 sized total_kind office (counter_of office lasts) refl (has_counter office lasts o f) small

-- A sheet drawn is a full sheet.
module _ (p : Plant) (w : Within p) (office : ℕ) (lasts o o' : List ℕ) (r : Sheet) where
  full : Shown p → ((xs : List ℤ) → Cheapest p xs → Sized p xs) → counter_of office lasts ≤ top_sheet → call_fault office lasts o ≡ 0 → Drawn p office lasts o o' r
      → Full p office lasts o o' r
  full shown sized top f d =
      let xs = d.0 in
      let sheet = sheet_of office p xs (next_of office lasts) in
      let size : r.written ≡ length sheet = ap (λ (y : Sheet). y.written) d.2 in
      let wide : length sheet ≤ length o = omega (arith, long_enough office lasts o f, sheet_most office p xs (next_of office lasts) w.few_streams) in
      record {
        result = d.2 ∙ (λ i. record { number = 0; written = sym size i; lasts = raised office lasts; marked = unmarked });
        sheet = plant_parts office p xs (next_of office lasts);
        read = parts_read p w office lasts o o' r d (sized xs d.1) top f;
        tells = tells p w shown xs d.1 (plant_parts office p xs (next_of office lasts)) (told p w xs d.1 total_kind office (next_of office lasts));
        under = record { kinded = refl; drawer = refl; numbered = refl };
        past = rw size (ap (drop (length sheet)) d.3 ∙ drop-append_seam sheet (drop (length sheet) o));
        fits = rw size wide;
        long = same_length (laid sheet o wide d.3);
      }

  -- With a flow in range a sheet is drawn, and without one a set is marked.
  module _ (given : Drawn p office lasts o o' r ⊎ Overfilled p lasts o o' r) where
    drawn_of : (ys : List ℤ) → allowed p ys ≡ true → Drawn p office lasts o o' r
    drawn_of ys a = ⊎_elim (λ d. d) (λ m. clash (allowed p ys) a (overfull_none p w m.0 m.1 1 ys (omega arith))) given

    overfilled_of : ((ys : List ℤ) → allowed p ys ≡ false) → Overfilled p lasts o o' r
    overfilled_of n = ⊎_elim (λ d. clash (allowed p d.0) d.1.balance (n d.0)) (λ m. m) given

-- A sheet that a call drew, read back in: the classes and the numbers of the plant's streams with a cheapest flow, and the total.
pub record ReadsBack (file : List ℕ) (office : ℕ) (lasts o' : List ℕ) (r : Sheet) : Type 0 where
  pub plant : Plant
  pub listed : read_plant file ≡ got plant
  pub flow : List ℤ
  pub cheapest : Cheapest plant flow
  pub read : read_sheet (take r.written o') ≡ some_sheet (plant_parts office plant flow (next_of office lasts))

module _ (file : List ℕ) (office : ℕ) (lasts o o' : List ℕ) (r : Sheet) (top : counter_of office lasts ≤ top_sheet)
    (Sized-of : (p : Plant) → read_plant file ≡ got p → (xs : List ℤ) → Cheapest p xs → Sized p xs) where
  drawn_back : (p : Plant) → read_plant file ≡ got p → call_fault office lasts o ≡ 0 → Drawn p office lasts o o' r → ReadsBack file office lasts o' r
  drawn_back p e f d = record {
    plant = p;
    listed = e;
    flow = d.0;
    cheapest = d.1;
    read = parts_read p (within p (accepted file p e).0) office lasts o o' r d (Sized-of p e d.0 d.1) top f;
  }

  -- A drawn sheet is read back.
  pub read_kept : SheetSays file office lasts o o' r → r.number ≡ 0 → ReadsBack file office lasts o' r
  read_kept s n = by_cases (eqb (call_fault office lasts o) 0)
      (λ t. let f = eqb-true (call_fault office lasts o) 0 t in go (read_plant file) refl f (call_taken file office lasts o o' r s f))
      (λ t. let f = eqb-false (call_fault office lasts o) 0 t in absurd (f (sym (ap (λ (y : Sheet). y.number) (call_faulty file office lasts o o' r s f).0) ∙ n)))
    where
      go : (g : Got) → read_plant file ≡ g → call_fault office lasts o ≡ 0 → SheetWith g office lasts o o' r → ReadsBack file office lasts o' r
      go (bad f) e z u = absurd (refused file f e (sym (ap (λ (y : Sheet). y.number) u.0) ∙ n))
      go (got p) e z (inl d) = drawn_back p e z d
      go (got p) e z (inr m) = absurd (omega (arith, ap (λ (y : Sheet). y.number) m.2.0))

-- Every call has an answer, since every plant that is read has a cheapest flow or an overfull set.
module _ (nineteen : Refusal19) (file : List ℕ) (office : ℕ) (lasts o : List ℕ) where
  abbrev none_drawn : List Bool → ℕ → Sheet
  none_drawn ms f = record { number = f; written = 0; lasts = lasts; marked = ms }

  some_read : (g : Got) → read_plant file ≡ g → (o' : List ℕ) × (r : Sheet) × SheetWith g office lasts o o' r
  some_read (bad f) e = (o, none_drawn unmarked f, (refl, refl))
  some_read (got p) e = ⊎_elim
      (λ c.
      let sheet = sheet_of office p c.0 (next_of office lasts) in
      (over sheet o, record { number = 0; written = length sheet; lasts = raised office lasts; marked = unmarked }, inl (c.0, c.1, refl, refl)))
      (λ m. (o, none_drawn m.0 19, inr (m.0, m.1, (refl, refl))))
      (nineteen.either file p e)

  some_tested : (b : Bool)
      → (o' : List ℕ) × (r : Sheet) × PickT b (SheetWith (read_plant file) office lasts o o' r) (Refused (call_fault office lasts o) lasts o o' r)
  some_tested true = some_read (read_plant file) refl
  some_tested false = (o, none_drawn unmarked (call_fault office lasts o), (refl, refl))

  -- The answer of a call.
  pub some_answer : (o' : List ℕ) × (r : Sheet) × SheetSays file office lasts o o' r
  some_answer = some_tested (eqb (call_fault office lasts o) 0)

-- Of every call, where the solver is right of every plant.
module _ (third : Demand3) (nineteen : Refusal19) (solve : (p : Arrays.Plant) → Accepted p → (s : Solved) × Right p s) where
  -- The same of the plant of a file.
  pub sized_here : (file : List ℕ) (p : Plant) → read_plant file ≡ got p → (xs : List ℤ) → Cheapest p xs → Sized p xs
  sized_here file p e = let h = solve (arrayed p) (read_accepted file p e) in sized file p e h.0 h.1

  answers : (file : List ℕ) (office : ℕ) (lasts o o' : List ℕ) (r : Sheet) → counter_of office lasts ≤ top_sheet → SheetSays file office lasts o o' r → Answers file office lasts o o' r
  answers file office lasts o o' r top s = record {
    unfit = λ n. call_faulty file office lasts o o' r s n;
    unread = λ f z e. (refused file f e, call_read file office lasts o o' r s (bad f) z e);
    full = λ p ys z e a.
        let w = within p (accepted file p e).0 in
        full p w office lasts o o' r (third file p ys e a) (sized_here file p e) top z (drawn_of p w office lasts o o' r (call_read file office lasts o o' r s (got p) z e) ys a);
    overfull = λ p z e. overfilled_of p (within p (accepted file p e).0) office lasts o o' r (call_read file office lasts o o' r s (got p) z e);
  }

  -- A plant with a flow in range has a sheet that tells what it has to.
  some_sheet_lem : (file : List ℕ) (p : Plant) (ys : List ℤ) → read_plant file ≡ got p → allowed p ys ≡ true → (s : SheetParts) × Tells p s
  some_sheet_lem file p ys e a =
      let w = within p (accepted file p e).0 in
      let shown = third file p ys e a in
      let xs = shown.some.0 in
      let c = shown.some.1 in
      (plant_parts 0 p xs 1, tells p w shown xs c (plant_parts 0 p xs 1) (told p w xs c total_kind 0 1))

  -- The demands, all of them.
  pub demands_met : Demands
  demands_met = record {
    some = some_answer nineteen;
    third = some_sheet_lem;
    sentences = answers;
    no_choice = no_choice;
    round = round_trip;
    groups = one_pass unmetered_only;
    pieces = one_pass every_stream;
    reopening = reopening;
    nineteen = nineteen;
    desk_tool = desk_tool nineteen answers;
  }
