-- The rules, over arrays, are those of the test; and the check's number by what was read.
use Rattle.std.specs.Prelude.{Ok, Err}
use mathlib.Core.Path.{◌≡◌, refl, sym, ◌∙◌, ap, subst}
use mathlib.Core.Bool.{Bool, true, false, ◌&&◌}
use mathlib.Core.List.{List}
use lib.IntN.{ℤ, pos, nat_abs}
use Prim.Native.Nat.{ℕ, ◌≤◌, ◌<◌}
use native.Mathlib.Omega.{arith}
use lib.Dec.{eqb, leb, ltb}
use lib.ListN.{length, get_or, take}
use lib.Seq.{ext_get_or, get_or-take, length-take-le}
use borrow.Author.Tests.{eq-eqb, ne_eqb, ltb-true, ltb-false, leb-true}
use Rattle.num_bytes.specs.Choice.{pick}
use Rattle.num_bytes.proofs.Tests.{by_cases, and_right}
use Rattle.num_bytes.proofs.Filled.{length_filled, take_filled, get_d_any}
use Rattle.plant_def.specs.declared.Plant as Arrays
use Rattle.plant_def.specs.Results.{Read}
use Rattle.plant_def.specs.Limits.{max_streams, places}
use Rattle.plant_def.specs.Plants.{Plant}
use Rattle.plant_def.specs.Within.{Accepted}
use Rattle.plant_def.specs.Files.{read_plant}
use Rattle.plant_def.specs.Says as Plants
use Rattle.plant_def.specs.Says.{plant_of}
use Rattle.plant_def.proofs.Arrayed.{all_listed, read_held}
use Rattle.plant_def.proofs.Found.{read_bad, found}
use Rattle.flow_def.specs.declared.Class.{Class}
use Rattle.flow_def.specs.declared.Class.TheVariants.{Adjusted}
use Rattle.flow_def.specs.Flows.{stream_at, amount_at, cost}
use Rattle.flow_def.specs.Labels.{labels_of}
use Rattle.flow_def.specs.Classes.{class_of, degrees}
use Rattle.flow_def.specs.Calls.{classes_of}
use Rattle.flow_def.specs.Shown.{adjusted}
use Rattle.flow_def.specs.Test.{verdict_at}
use Rattle.flow_def.proofs.Certified.{every_at, every_same}
use Rattle.flow_def.proofs.ByLabels.{class_past}
use Rattle.num_bytes.proofs.Lists.{values_long, values_at}
use Rattle.num_bytes.proofs.Sums.{sum_same}
use Rattle.solve_def.specs.Sizes.{flow_shift}
use Rattle.sheet_def.specs.declared.Entry.{Entry}
use Rattle.sheet_def.specs.declared.Total.{Total}
use Rattle.plant_def.specs.declared.refusal.Refusal.{Refusal}
use Rattle.plant_def.specs.Refused.{refusal_number}
use Rattle.plant_def.proofs.Numbers.{some_number}
use Rattle.sheet_def.specs.declared.SheetRead.{SheetRead}
use Rattle.sheet_def.specs.Totals.{top_cost, capped}
use Rattle.sheet_def.specs.Calls.{AllSmall, no_entry}
use Rattle.sheet_def.specs.Sheets.{SheetParts, kind_of, known}
use Rattle.sheet_def.specs.Views.{sheet_as}
use Rattle.sheet_def.specs.Kept as Kept
use Rattle.sheet_def.specs.Kept.{Reopened, no_sheet, some_sheet, read_sheet, read_of, blank}
use Rattle.sheet_def.specs.Sentences.{class_on}
use Rattle.sheet_def.proofs.Back.{few_read}
use Rattle.sheet_def.proofs.Demands.{demands}
use Rattle.sheet_entries.proofs.Verdicts.{capped_verdict}
use Rattle.foreign_def.specs.Passing.{difference}
use Rattle.foreign_def.specs.Says.{CheckSays}
use Rattle.foreign_def.specs.Test.{withheld_only, shown_at, shown_flows, flows_shown, numbers_fit, records_fit, flow_fits, flows_fit, brought_by, nets_fit, total_fits, parts_in, passes, check_with}
use Rattle.foreign_def.proofs.Promise.{check_says}

-- The total.
module _ (p : Plant) (c : ℕ) (t : Total) where
  -- Other degrees do not fit.
  pub other_degrees : (d : ℕ) → d ≡ degrees p → (t.degrees ≡ d → ⊥) → false ≡ total_fits p c t
  other_degrees d e n = rw (ne_eqb t.degrees (degrees p) (λ q. n (q ∙ sym e)))

  module _ (d : ℕ) (e : d ≡ degrees p) (q : t.degrees ≡ d) (s : ℕ) (es : s ≡ capped c) where
    -- Another cost: the total does not fit.
    pub other_cost : (t.cost ≡ s → ⊥) → false ≡ total_fits p c t
    other_cost n = rw (eq-eqb t.degrees (degrees p) (q ∙ e), ne_eqb t.cost (capped c) (λ r. n (r ∙ sym es)))

    -- The same cost: it fits where the verdict does.
    pub by_verdict : t.cost ≡ s → (w v : ℕ) → w ≡ adjusted p → w ≤ top_cost → v ≡ verdict_at d s w → eqb t.verdict v ≡ total_fits p c t
    by_verdict r w v ew h ev =
        let same : v ≡ verdict_at (degrees p) c (adjusted p) = ev ∙ (λ i. verdict_at (e i) (es i) (ew i)) ∙ capped_verdict (degrees p) c (adjusted p) (rw (← ew) h) in
        rw (eq-eqb t.degrees (degrees p) (q ∙ e), eq-eqb t.cost (capped c) (r ∙ es), same)

-- Six tests, one after the other.
none : (a b : Bool) → b ≡ false → a && b ≡ false
none true b e = e
none false b e = refl

module _ (a b c d e f : Bool) where
  -- The first fails.
  pub off_1 : a ≡ false → false ≡ (a && (b && (c && (d && (e && f)))))
  off_1 h = rw h

  -- The second fails.
  pub off_2 : b ≡ false → false ≡ (a && (b && (c && (d && (e && f)))))
  off_2 h = sym (none a _ (rw h))

  -- The third fails.
  pub off_3 : c ≡ false → false ≡ (a && (b && (c && (d && (e && f)))))
  off_3 h = sym (none a _ (none b _ (rw h)))

  -- The fourth fails.
  pub off_4 : d ≡ false → false ≡ (a && (b && (c && (d && (e && f)))))
  off_4 h = sym (none a _ (none b _ (none c _ (rw h))))

  -- The fifth fails.
  pub off_5 : e ≡ false → false ≡ (a && (b && (c && (d && (e && f)))))
  off_5 h = sym (none a _ (none b _ (none c _ (none d _ (rw h)))))

  -- The first five hold: the last decides.
  pub last : a ≡ true → b ≡ true → c ≡ true → d ≡ true → e ≡ true → f ≡ (a && (b && (c && (d && (e && f)))))
  last ha hb hc hd he = rw (ha, hb, hc, hd, he)

-- A plant in an array, a sheet as it was handed over, of as many records, and its flows by our classes.
pub record Shown (p : Arrays.Plant) (kept : SheetRead) (classes : List Class) (flows : List ℤ) : Type 0 where
  pub accepted : Accepted p
  pub long : length kept.streams ≡ max_streams
  pub same : kept.count ≡ p.count
  pub ours : classes ≡ classes_of (plant_of p)
  pub are : flows ≡ flows_shown classes kept.streams

-- The test of its records.
abbrev pub records_in : Arrays.Plant → SheetRead → List Class → List ℤ → Bool
records_in p kept classes flows = records_fit p.count (λ k. (get_or kept.streams k no_entry).class) (λ k. get_or classes k Adjusted) (amount_at flows)

module _ (p : Arrays.Plant) (kept : SheetRead) (numbers : List ℤ) where
  abbrev P : Plant
  P = plant_of p

  abbrev S : SheetParts
  S = parts_in kept

  -- The six tests.
  abbrev numbered : Bool
  numbered = numbers_fit p.units numbers

  abbrev same_count : Bool
  same_count = eqb (length S.streams) (length P.streams)

  abbrev recorded : Bool
  recorded = records_fit (length P.streams) (class_on S) (class_of P) (shown_at P S)

  abbrev flowing : Bool
  flowing = flows_fit P.streams (shown_at P S) numbers

  abbrev level : Bool
  level = nets_fit (labels_of (withheld_only P) P) P.streams (shown_at P S)

  abbrev totalled : Bool
  totalled = total_fits P (cost P.streams (shown_flows P S)) S.total

  counted : kept.count ≤ max_streams → length kept.streams ≡ max_streams → length S.streams ≡ kept.count
  counted few long = length-take-le kept.count kept.streams (omega arith)

  -- The numbers do not fit: the sheet does not pass.
  pub wrong_numbers : numbers_fit p.units numbers ≡ false → false ≡ passes P S numbers
  unfolding passes
  wrong_numbers h = off_1 numbered same_count recorded flowing level totalled h

  -- Not as many records as streams: it does not pass.
  pub wrong_count : Accepted p → kept.count ≤ max_streams → length kept.streams ≡ max_streams → (kept.count ≡ p.count → ⊥) → false ≡ passes P S numbers
  unfolding passes
  wrong_count a few long n = off_2 numbered same_count recorded flowing level totalled
      (ne_eqb (length S.streams) (length P.streams) (λ q. n (sym (counted few long) ∙ q ∙ all_listed p a)))

  module _ {classes : List Class} {flows : List ℤ} (s : Shown p kept classes flows) where
    small_count : p.count ≤ max_streams
    small_count = s.accepted.within.few_streams

    all_of : length P.streams ≡ p.count
    all_of = all_listed p s.accepted

    entry_same : (k : ℕ) → k < p.count → get_or kept.streams k no_entry ≡ get_or S.streams k blank
    entry_same k l =
        get_d_any kept.streams k no_entry blank (omega (arith, small_count, s.long))
        ∙ sym (get_or-take kept.count kept.streams k blank (omega (arith, s.same)))

    class_same : (k : ℕ) → k < max_streams → get_or classes k Adjusted ≡ class_of P k
    class_same k l = ap (λ (cs : List Class). get_or cs k Adjusted) s.ours ∙ values_at (class_of P) Adjusted max_streams k l

    -- The flows are those that the sheet shows.
    abbrev shown : ℕ → ℤ
    shown k = pick (known (get_or classes k Adjusted)) (get_or kept.streams k no_entry).flow (pos 0)

    shown_in : (k : ℕ) → k < max_streams → amount_at flows k ≡ pick (known (class_of P k)) (get_or kept.streams k no_entry).flow (pos 0)
    unfolding flows_shown
    shown_in k l =
        ap (λ (xs : List ℤ). amount_at xs k) s.are
        ∙ values_at shown (pos 0) max_streams k l
        ∙ ap (λ (c : Class). pick (known c) (get_or kept.streams k no_entry).flow (pos 0)) (class_same k l)

    flow_same : (k : ℕ) → k < p.count → amount_at flows k ≡ shown_at P S k
    flow_same k l = shown_in k (omega (arith, small_count)) ∙ ap (λ (e : Entry). pick (known (class_of P k)) e.flow (pos 0)) (entry_same k l)

    listed : (k : ℕ) → k < length P.streams → k < p.count
    listed k l = rw all_of at l

    records_same : records_in p kept classes flows ≡ records_fit (length P.streams) (class_on S) (class_of P) (shown_at P S)
    records_same =
        every_same p.count _ (λ k. eqb (kind_of (class_on S k)) (kind_of (class_of P k)) && leb (nat_abs (shown_at P S k)) flow_shift) each
        ∙ ap (λ (n : ℕ). records_fit n (class_on S) (class_of P) (shown_at P S)) (sym all_of)
      where
        each : (k : ℕ) → k < p.count
            → (eqb (kind_of (get_or kept.streams k no_entry).class) (kind_of (get_or classes k Adjusted)) && leb (nat_abs (amount_at flows k)) flow_shift)
            ≡ (eqb (kind_of (class_on S k)) (kind_of (class_of P k)) && leb (nat_abs (shown_at P S k)) flow_shift)
        each k l =
            let x = ap (λ (e : Entry). e.class) (entry_same k l) in
            let y = class_same k (omega (arith, small_count)) in
            let z = flow_same k l in
            λ i. eqb (kind_of (x i)) (kind_of (y i)) && leb (nat_abs (z i)) flow_shift

    flows_same : flows_fit P.streams (amount_at flows) numbers ≡ flows_fit P.streams (shown_at P S) numbers
    flows_same = every_same (length P.streams) _ _ (λ k l.
        ap (λ (x : ℤ). flow_fits (stream_at P.streams k) x (difference numbers (stream_at P.streams k))) (flow_same k (listed k l)))

    nets_same : nets_fit (labels_of (withheld_only P) P) P.streams (amount_at flows) ≡ nets_fit (labels_of (withheld_only P) P) P.streams (shown_at P S)
    unfolding nets_fit
    nets_same = every_same places _ _ (λ v l. ap (λ (z : ℤ). eqb (nat_abs z) 0)
        (sum_same (length P.streams) _ _ (λ k m. ap (brought_by (labels_of (withheld_only P) P) v (stream_at P.streams k)) (flow_same k (listed k m)))))

    flows_long : length flows ≡ max_streams
    unfolding flows_shown
    flows_long = ap length s.are ∙ values_long shown max_streams

    cost_same : cost P.streams (take p.count flows) ≡ cost P.streams (shown_flows P S)
    cost_same = ap (cost P.streams)
        (ext_get_or (pos 0) (take p.count flows) (shown_flows P S) (taken ∙ sym (values_long (shown_at P S) (length P.streams) ∙ all_of)) each)
      where
        taken : length (take p.count flows) ≡ p.count
        taken = length-take-le p.count flows (omega (arith, flows_long, small_count))

        each : (k : ℕ) → k < length (take p.count flows) → get_or (take p.count flows) k (pos 0) ≡ get_or (shown_flows P S) k (pos 0)
        each k l =
            let b : k < p.count = rw taken at l in
            get_or-take p.count flows k (pos 0) b ∙ flow_same k b ∙ sym (values_at (shown_at P S) (pos 0) (length P.streams) k (rw all_of b))

    -- Records that fit have small flows, and past the last stream there is none.
    pub records_small : records_in p kept classes flows ≡ true → AllSmall flows
    records_small h k l = by_cases (ltb k p.count)
        (λ t. leb-true (nat_abs (amount_at flows k)) flow_shift
        (and_right (eqb (kind_of (get_or kept.streams k no_entry).class) (kind_of (get_or classes k Adjusted))) _ (every_at p.count _ h k (ltb-true k p.count t))))
        (λ t. rw (shown_in k l, class_past P k (omega (arith, all_of, ltb-false k p.count t))) (omega arith))

    -- A record does not fit: it does not pass.
    pub wrong_record : records_in p kept classes flows ≡ false → false ≡ passes P S numbers
    unfolding passes
    wrong_record h = off_3 numbered same_count recorded flowing level totalled (sym records_same ∙ h)

    -- A flow does not fit: it does not pass.
    pub wrong_flow : flows_fit P.streams (amount_at flows) numbers ≡ false → false ≡ passes P S numbers
    unfolding passes
    wrong_flow h = off_4 numbered same_count recorded flowing level totalled (sym flows_same ∙ h)

    -- A net is not 0: it does not pass.
    pub wrong_net : nets_fit (labels_of (withheld_only P) P) P.streams (amount_at flows) ≡ false → false ≡ passes P S numbers
    unfolding passes
    wrong_net h = off_5 numbered same_count recorded flowing level totalled (sym nets_same ∙ h)

    -- All but the total fits: the sheet passes where the total does.
    pub by_total : numbers_fit p.units numbers ≡ true → records_in p kept classes flows ≡ true → flows_fit P.streams (amount_at flows) numbers ≡ true
        → nets_fit (labels_of (withheld_only P) P) P.streams (amount_at flows) ≡ true
        → total_fits P (cost P.streams (take p.count flows)) kept.total ≡ passes P S numbers
    unfolding passes
    by_total ha hc hd he =
        let few : kept.count ≤ max_streams = omega (arith, s.same, small_count) in
        ap (λ (c : ℕ). total_fits P c kept.total) cost_same
        ∙ last numbered same_count recorded flowing level totalled
        ha (eq-eqb (length S.streams) (length P.streams) (counted few s.long ∙ s.same ∙ sym all_of)) (sym records_same ∙ hc) (sym flows_same ∙ hd) (sym nets_same ∙ he)

-- What the sheet reader handed over.
pub record SheetGot (bytes : List ℕ) (kept : SheetRead) : Type 0 where
  pub sheet : SheetParts
  pub read : read_sheet bytes ≡ some_sheet sheet
  pub parts : parts_in kept ≡ sheet
  pub few : kept.count ≤ max_streams
  pub long : length kept.streams ≡ max_streams

-- What is known of a sheet that is read.
pub sheet_got : (bytes : List ℕ) (kept : SheetRead) → sheet_as (Ok kept) ≡ read_of (read_sheet bytes) → SheetGot bytes kept
sheet_got bytes kept e = go (read_sheet bytes) refl e
  where
    go : (g : Reopened) → read_sheet bytes ≡ g → sheet_as (Ok kept) ≡ read_of g → SheetGot bytes kept
    go (no_sheet f) q r = absurd (omega (arith, demands.reopening.refused bytes f q, ap (λ (k : Kept.SheetRead). k.number) r))
    go (some_sheet s) q r =
        let b = few_read bytes s q in
        let t = take_filled blank max_streams s.streams b in
        record {
          sheet = s;
          read = q;
          parts = ap (λ (k : Kept.SheetRead). record { streams = take k.count k.streams; total = k.total }) r ∙ (λ i. record { streams = t i; total = s.total });
          few = omega (arith, b, ap (λ (k : Kept.SheetRead). k.count) r);
          long = ap (λ (k : Kept.SheetRead). length k.streams) r ∙ length_filled blank max_streams s.streams;
        }

refused_sheet : (g : Reopened) (f : Refusal) → sheet_as (Err f) ≡ read_of g → g ≡ no_sheet (refusal_number f)
refused_sheet (no_sheet n) f e = ap (λ (k : Kept.SheetRead). no_sheet k.number) (sym e)
refused_sheet (some_sheet s) f e = absurd (some_number f (ap (λ (k : Kept.SheetRead). k.number) e))

-- The answer, by what was read.
module _ (file bytes : List ℕ) (numbers : List ℤ) (y : Read) (e : y ≡ Plants.read_of (read_plant file)) where
  says : (r : ℕ) → r ≡ check_with (read_plant file) (read_sheet bytes) numbers → CheckSays file bytes numbers r
  says r q = subst (CheckSays file bytes numbers) (sym q) (check_says file bytes numbers)

  -- The plant reader's refusal.
  pub no_plant : (y.number ≡ 0 → ⊥) → CheckSays file bytes numbers y.number
  no_plant n = says y.number (rw (read_bad (read_plant file) y e n))

  module _ (n : y.number ≡ 0) where
    -- The sheet reader's refusal.
    pub no_sheet_lem : (f : Refusal) → sheet_as (Err f) ≡ read_of (read_sheet bytes) → CheckSays file bytes numbers (refusal_number f)
    no_sheet_lem f q = says (refusal_number f) (rw ((found file y e n).1, refused_sheet (read_sheet bytes) f q))

    -- Both are read: 26 unless the sheet passes.
    pub by_rules : (kept : SheetRead) → sheet_as (Ok kept) ≡ read_of (read_sheet bytes) → (b : Bool) → b ≡ passes (plant_of y.plant) (parts_in kept) numbers
        → CheckSays file bytes numbers (pick b 0 26)
    by_rules kept q b h =
        let f = found file y e n in
        let g = sheet_got bytes kept q in
        let same : plant_of y.plant ≡ f.0 = ap plant_of f.2 ∙ read_held file f.0 f.1 in
        says (pick b 0 26) (rw (f.1, g.read) (ap (λ (c : Bool). pick {A = ℕ} c 0 26) (h ∙ (λ i. passes (same i) (g.parts i) numbers))))
