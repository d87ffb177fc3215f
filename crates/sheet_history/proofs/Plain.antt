-- Before the change and after it: the sheets follow on in number.
use mathlib.Core.Path.{◌≡◌, refl, sym, ap, ◌∙◌}
use mathlib.Core.Bool.{Bool, true, false}
use mathlib.Core.Logic.{◌⊎◌, inl, inr, ⊎_elim}
use mathlib.Core.List.{List, [], ◌∷◌, ◌++◌}
use Prim.Native.Nat.{ℕ, zero, suc, ◌+◌, ◌*◌, ◌^◌, ◌≤◌, ◌<◌}
use native.Mathlib.Omega.{arith}
use borrow.Author.Tests.{eq-eqb, ne_eqb, eqb-true, eqb-false}
use lib.Dec.{eqb, ltb}
use lib.ListN.{length, take, drop}
use lib.Seq.{take_at}
use Rattle.num_bytes.specs.Choice.{pick, refuse_if}
use Rattle.num_bytes.specs.Inner.{PickT}
use Rattle.num_bytes.proofs.Tests.{by_cases, refuse_none, first_none_right}
use Rattle.plant_def.specs.Limits.{max_streams}
use Rattle.plant_def.specs.Plants.{Plant}
use Rattle.plant_def.specs.Files.{Got, bad, got, read_plant}
use Rattle.plant_def.proofs.Limited.{within}
use Rattle.plant_def.proofs.Accepted.{accepted, refused}
use Rattle.flow_def.specs.Overfull.{unmarked}
use Rattle.sheet_def.specs.declared.Sheet.{Sheet}
use Rattle.sheet_def.specs.Totals.{plain_kind, stream_size, plain_size}
use Rattle.sheet_def.specs.Counters.{top_sheet, counter_of, offices_from}
use Rattle.sheet_def.specs.Kept.{read_sheet}
use Rattle.sheet_def.proofs.ReadAgain.{read_back}
use Rattle.sheet_def.proofs.Demands.{all_sized, parts_tell}
use Rattle.sheet_history.specs.Before.{plain_parts, plain_of, plain_fault, PlainRefused, PlainDrawn, PlainWith, PlainSays}
use Rattle.sheet_history.specs.History.{Call, Calls, PlainCalls, counters_after, drew, drawn_count, drawn_sheets, numbers_of, up_from, Eight, ReadsPlain}
use Rattle.sheet_history.proofs.Sequences.{read_own, numbers}

-- A sheet was drawn, or none was.
record Drew (file : List ℕ) (last : ℕ) (o' : List ℕ) (r : Sheet) : Type 0 where
  done : r.number ≡ 0
  after : counter_of 0 r.lasts ≡ suc last
  fit : suc last ≤ top_sheet
  read : ReadsPlain file last o' r

record Idle (last : ℕ) (r : Sheet) : Type 0 where
  not_done : r.number ≡ 0 → ⊥
  same : counter_of 0 r.lasts ≡ last

idle : (f last : ℕ) (o o' : List ℕ) (r : Sheet) → (f ≡ 0 → ⊥) → PlainRefused unmarked f last o o' r → Idle last r
idle f last o o' r n w = record { not_done = λ e. n (sym (ap (λ (y : Sheet). y.number) w.0) ∙ e); same = ap (λ (y : Sheet). counter_of 0 y.lasts) w.0 }

module _ (file : List ℕ) (last : ℕ) (o o' : List ℕ) (r : Sheet) (top : last ≤ top_sheet) where
  drawn : (p : Plant) → read_plant file ≡ got p → plain_fault last o ≡ 0 → PlainDrawn p last o o' r → Drew file last o' r
  drawn p e z d =
      let xs = d.0 in
      let sheet : List ℕ = plain_of p xs (suc last) in
      let left : last ≡ top_sheet → ⊥ = eqb-false last top_sheet (refuse_none _ 1 (first_none_right (refuse_if (ltb (length o) (max_streams * stream_size + plain_size)) 1) _ z)) in
      let small : suc last < 256 ^ 4 = omega (arith, left) in
      let bytes : take r.written o' ≡ sheet =
      ap (λ (y : Sheet). take y.written o') d.2 ∙ ap (take (length sheet)) d.3 ∙ take_at sheet (drop (length sheet) o) (length sheet) refl in
      record {
        done = ap (λ (y : Sheet). y.number) d.2;
        after = ap (λ (y : Sheet). counter_of 0 y.lasts) d.2;
        fit = omega (arith, left);
        read = record {
          plant = p;
          listed = e;
          sheet = plain_parts p xs (suc last);
          tells = parts_tell file p e xs d.1 plain_kind 0 (suc last);
          under = record { kinded = refl; drawer = refl; numbered = refl };
          read = ap read_sheet bytes ∙ read_back p (within p (accepted file p e).0) xs d.1 (all_sized file p e xs d.1) plain_kind 0 last refl (omega arith) small;
        };
      }

  by_file : plain_fault last o ≡ 0 → (g : Got) → read_plant file ≡ g → PlainWith g last o o' r → Drew file last o' r ⊎ Idle last r
  by_file z (bad f) e w = inr (idle f last o o' r (refused file f e) w)
  by_file z (got p) e (inl d) = inl (drawn p e z d)
  by_file z (got p) e (inr m) = inr (record {
    not_done = λ n. let q = ap (λ (y : Sheet). y.number) m.2.0 in omega arith;
    same = ap (λ (y : Sheet). counter_of 0 y.lasts) m.2.0;
  })

  by_test : (b : Bool) → eqb (plain_fault last o) 0 ≡ b → PickT b (PlainWith (read_plant file) last o o' r) (PlainRefused unmarked (plain_fault last o) last o o' r)
      → Drew file last o' r ⊎ Idle last r
  by_test true t s = by_file (eqb-true (plain_fault last o) 0 t) (read_plant file) refl s
  by_test false t s = inr (idle (plain_fault last o) last o o' r (eqb-false (plain_fault last o) 0 t) s)

  step : PlainSays file last o o' r → Drew file last o' r ⊎ Idle last r
  step s = by_test (eqb (plain_fault last o) 0) refl s

  -- A sheet drawn before the change reads back as that of office 0, and tells of the plant what it has to.
  pub plain : PlainSays file last o o' r → r.number ≡ 0 → ReadsPlain file last o' r
  plain s n = ⊎_elim (λ d. d.read) (λ d. absurd (d.not_done n)) (step s)

-- The number after calls before the change, and how many drew a sheet.
abbrev last_after : ℕ → List Call → ℕ
last_after last [] = last
last_after last (c ∷ cs) = last_after (counter_of 0 c.answer.lasts) cs

abbrev plain_count : List Call → ℕ
plain_count [] = 0
plain_count (c ∷ cs) = pick (eqb c.answer.number 0) (suc (plain_count cs)) (plain_count cs)

last_is : (lasts : List ℕ) (ps : List Call) → last_after (counter_of 0 lasts) ps ≡ counter_of 0 (counters_after lasts ps)
last_is lasts [] = refl
last_is lasts (c ∷ ps) = last_is c.answer.lasts ps

count_is : (last : ℕ) (ps : List Call) → PlainCalls last ps → plain_count ps ≡ drawn_count 0 ps
count_is last [] s = refl
count_is last (c ∷ ps) s =
    let own : eqb c.office 0 ≡ true = eq-eqb c.office 0 s.0 in
    let more = count_is (counter_of 0 c.answer.lasts) ps s.2 in
    by_cases (eqb c.answer.number 0) (λ t. rw (t, own) (ap suc more)) (λ t. rw t more)

sheets_both : (ps cs : List Call) → drawn_sheets (ps ++ cs) ≡ drawn_sheets ps ++ drawn_sheets cs
sheets_both [] cs = refl
sheets_both (c ∷ ps) cs =
    let more = sheets_both ps cs in
    by_cases (eqb c.answer.number 0) (λ t. rw t (ap (λ (l : List (List ℕ)). take c.answer.written c.after ∷ l) more)) (λ t. rw t more)

count_both : (k : ℕ) (ps cs : List Call) → drawn_count k (ps ++ cs) ≡ drawn_count k ps + drawn_count k cs
count_both k [] cs = omega arith
count_both k (c ∷ ps) cs = let more = count_both k ps cs in by_cases (drew k c) (λ t. rw t (omega arith)) (λ t. rw t (omega arith))

-- What the calls before the change come to, whatever sheets follow.
record Came (last : ℕ) (ps : List Call) : Type 0 where
  counted : last_after last ps ≡ last + plain_count ps
  fit : last_after last ps ≤ top_sheet
  numbered : (bs : List (List ℕ)) → numbers_of 0 (drawn_sheets ps ++ bs) ≡ up_from (suc last) (plain_count ps) ++ numbers_of 0 bs

module _ (last : ℕ) (c : Call) (ps : List Call) (rest : Came (counter_of 0 c.answer.lasts) ps) where
  drew_more : Drew c.file last c.after c.answer → Came last (c ∷ ps)
  drew_more d =
      let done : eqb c.answer.number 0 ≡ true = eq-eqb c.answer.number 0 d.done in
      let sheet : List ℕ = take c.answer.written c.after in
      let count : plain_count (c ∷ ps) ≡ suc (plain_count ps) = rw done refl in
      let listed : drawn_sheets (c ∷ ps) ≡ take c.answer.written c.after ∷ drawn_sheets ps = rw done refl in
      record {
        counted = let q = rest.counted in let a = d.after in omega (arith, q, a, count);
        fit = rest.fit;
        numbered = λ bs. ap (λ (l : List (List ℕ)). numbers_of 0 (l ++ bs)) listed
            ∙ read_own 0 sheet (drawn_sheets ps ++ bs) d.read.sheet d.read.read d.read.under.drawer
            ∙ ap (λ (n : ℕ). n ∷ numbers_of 0 (drawn_sheets ps ++ bs)) d.read.under.numbered
            ∙ ap (λ (l : List ℕ). suc last ∷ l) (rest.numbered bs ∙ ap (λ (n : ℕ). up_from (suc n) (plain_count ps) ++ numbers_of 0 bs) d.after)
            ∙ sym (ap (λ (n : ℕ). up_from (suc last) n ++ numbers_of 0 bs) count);
      }

  idle_more : Idle last c.answer → Came last (c ∷ ps)
  idle_more d =
      let none : eqb c.answer.number 0 ≡ false = ne_eqb c.answer.number 0 d.not_done in
      let count : plain_count (c ∷ ps) ≡ plain_count ps = rw none refl in
      let listed : drawn_sheets (c ∷ ps) ≡ drawn_sheets ps = rw none refl in
      record {
        counted = let q = rest.counted in let a = d.same in omega (arith, q, a, count);
        fit = rest.fit;
        numbered = λ bs. ap (λ (l : List (List ℕ)). numbers_of 0 (l ++ bs)) listed
            ∙ rest.numbered bs
            ∙ (λ i. up_from (suc (d.same i)) (sym count i) ++ numbers_of 0 bs);
      }

came : (last : ℕ) (ps : List Call) → last ≤ top_sheet → PlainCalls last ps → Came last ps
came last [] top s = record { counted = omega arith; fit = top; numbered = λ bs. refl }
came last (c ∷ ps) top s =
    ⊎_elim (λ d. let a = d.after in let h = d.fit in drew_more last c ps (came (counter_of 0 c.answer.lasts) ps (omega (arith, a, h)) s.2) d)
    (λ d. let a = d.same in idle_more last c ps (came (counter_of 0 c.answer.lasts) ps (omega (arith, a, top)) s.2) d)
    (step c.file last c.before c.after c.answer top s.1)

-- The counters that the change makes.
from_eight : (last : ℕ) → last ≤ top_sheet → Eight (offices_from last)
from_eight last h = record { long = refl; fit = fit }
  where
    fit : (k : ℕ) → counter_of k (offices_from last) ≤ top_sheet
    fit zero = h
    fit (suc zero) = omega arith
    fit (suc (suc zero)) = omega arith
    fit (suc (suc (suc zero))) = omega arith
    fit (suc (suc (suc (suc zero)))) = omega arith
    fit (suc (suc (suc (suc (suc zero))))) = omega arith
    fit (suc (suc (suc (suc (suc (suc zero)))))) = omega arith
    fit (suc (suc (suc (suc (suc (suc (suc zero))))))) = omega arith
    fit (suc (suc (suc (suc (suc (suc (suc (suc k)))))))) = omega arith

abbrev passed : ℕ → List Call → ℕ
passed first ps = counter_of 0 (counters_after (first ∷ []) ps)

-- The counters at the change are eight, each of 32 bits.
pub change : (first : ℕ) (ps : List Call) → first ≤ top_sheet → PlainCalls first ps → Eight (offices_from (passed first ps))
change first ps top s = from_eight (passed first ps) (let h = (came first ps top s).fit in let e = last_is (first ∷ []) ps in omega arith)

up_more : (n i j : ℕ) → up_from n i ++ up_from (n + i) j ≡ up_from n (i + j)
up_more n zero j = let e : n + 0 ≡ n = omega arith in let f : j ≡ 0 + j = omega arith in λ i. up_from (e i) (f i)
up_more n (suc i) j =
    let e : n + suc i ≡ suc n + i = omega arith in
    let f : suc (i + j) ≡ suc i + j = omega arith in
    ap (λ (l : List ℕ). n ∷ l) (ap (λ (m : ℕ). up_from (suc n) i ++ up_from m j) e ∙ up_more (suc n) i j) ∙ ap (up_from n) f

-- The numbers of office 0's sheets, before the change and after it, are consecutive.
pub follow : (first : ℕ) (ps cs : List Call) → first ≤ top_sheet → PlainCalls first ps → Calls (offices_from (passed first ps)) cs
    → numbers_of 0 (drawn_sheets (ps ++ cs)) ≡ up_from (suc first) (drawn_count 0 (ps ++ cs))
follow first ps cs top s t =
    let c = came first ps top s in
    let n : suc (passed first ps) ≡ suc first + plain_count ps = let q = c.counted in let e = last_is (first ∷ []) ps in omega arith in
    let all : plain_count ps + drawn_count 0 cs ≡ drawn_count 0 (ps ++ cs) = let e = count_is first ps s in let b = count_both 0 ps cs in omega arith in
    ap (numbers_of 0) (sheets_both ps cs)
    ∙ c.numbered (drawn_sheets cs)
    ∙ ap (λ (l : List ℕ). up_from (suc first) (plain_count ps) ++ l) (numbers (offices_from (passed first ps)) cs (change first ps top s) t 0 ∙ ap (λ (m : ℕ). up_from m (drawn_count 0 cs)) n)
    ∙ up_more (suc first) (plain_count ps) (drawn_count 0 cs)
    ∙ ap (up_from (suc first)) all
