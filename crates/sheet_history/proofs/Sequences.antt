-- Any sequence of calls: each office's next number, and the numbers of its sheets.
use mathlib.Core.Path.{◌≡◌, refl, sym, ap, ◌∙◌}
use mathlib.Core.Bool.{Bool, true, false, ◌&&◌}
use mathlib.Core.Logic.{⊎_elim}
use mathlib.Core.List.{List, [], ◌∷◌, ◌++◌}
use Prim.Native.Nat.{ℕ, suc, ◌+◌}
use native.Mathlib.Omega.{arith}
use borrow.Author.Tests.{eq-eqb, ne_eqb, eqb-true, eqb-false}
use lib.Dec.{eqb}
use lib.ListN.{take}
use Rattle.num_bytes.specs.Choice.{pick}
use Rattle.num_bytes.proofs.Tests.{by_cases}
use Rattle.sheet_def.specs.Counters.{counter_of, next_of}
use Rattle.sheet_def.specs.Sheets.{SheetParts}
use Rattle.sheet_def.specs.Drawings.{plant_parts}
use Rattle.sheet_def.specs.Says.{SheetSays}
use Rattle.sheet_def.specs.Kept.{some_sheet, read_sheet}
use Rattle.sheet_def.proofs.Answering.{ReadsBack}
use Rattle.sheet_def.proofs.Demands.{drawn_kept}
use Rattle.sheet_history.specs.History.{Call, Calls, counters_after, drawn_count, drawn_sheets, number_read, numbers_of, up_from, Eight}
use Rattle.sheet_history.proofs.Steps.{Drew, Idle, step, own_raised, other_same, step_eight}

-- The counters stay eight, each of 32 bits.
pub kept : (lasts : List ℕ) (cs : List Call) → Eight lasts → Calls lasts cs → Eight (counters_after lasts cs)
kept lasts [] w s = w
kept lasts (c ∷ cs) w s = kept c.answer.lasts cs (step_eight c.file c.office lasts c.before c.after c.answer s.0 w) s.1

-- One call more, by its two tests.
count_own : (a b : Bool) (n : ℕ) → a ≡ true → b ≡ true → pick (a && b) (suc n) n ≡ suc n
count_own a b n e f = rw (e, f) refl

count_other : (a b : Bool) (n : ℕ) → b ≡ false → pick (a && b) (suc n) n ≡ n
count_other true b n f = rw f refl
count_other false b n f = refl

count_idle : (a b : Bool) (n : ℕ) → a ≡ false → pick (a && b) (suc n) n ≡ n
count_idle a b n e = rw e refl

-- One call more, and what is known of the rest.
module _ (lasts : List ℕ) (c : Call) (cs : List Call) (w : Eight lasts) (s : SheetSays c.file c.office lasts c.before c.after c.answer) (k : ℕ)
    (rest : next_of k (counters_after c.answer.lasts cs) ≡ next_of k c.answer.lasts + drawn_count k cs) where
  drawn : Drew c.office lasts c.answer → next_of k (counters_after lasts (c ∷ cs)) ≡ next_of k lasts + drawn_count k (c ∷ cs)
  drawn d = by_cases (eqb c.office k)
      (λ t. let e : k ≡ c.office = sym (eqb-true c.office k t) in
      let own : counter_of k c.answer.lasts ≡ suc (counter_of k lasts) = rw e (own_raised c.office lasts c.answer d w.long) in
      omega (arith, rest, own, count_own (eqb c.answer.number 0) (eqb c.office k) (drawn_count k cs) (eq-eqb c.answer.number 0 d.done) t))
      (λ t. let same = other_same c.office lasts c.answer d k (λ e. eqb-false c.office k t (sym e)) in
      omega (arith, rest, same, count_other (eqb c.answer.number 0) (eqb c.office k) (drawn_count k cs) t))

  idle : Idle lasts c.answer → next_of k (counters_after lasts (c ∷ cs)) ≡ next_of k lasts + drawn_count k (c ∷ cs)
  idle d =
      let same : counter_of k c.answer.lasts ≡ counter_of k lasts = ap (counter_of k) d.same in
      omega (arith, rest, same, count_idle (eqb c.answer.number 0) (eqb c.office k) (drawn_count k cs) (ne_eqb c.answer.number 0 d.not_done))

  next_more : next_of k (counters_after lasts (c ∷ cs)) ≡ next_of k lasts + drawn_count k (c ∷ cs)
  next_more = ⊎_elim drawn idle (step c.file c.office lasts c.before c.after c.answer s)

-- An office's next number is raised by as many sheets as it drew.
pub next : (lasts : List ℕ) (cs : List Call) → Eight lasts → Calls lasts cs → (k : ℕ)
    → next_of k (counters_after lasts cs) ≡ next_of k lasts + drawn_count k cs
next lasts [] w s k = omega arith
next lasts (c ∷ cs) w s k =
    next_more lasts c cs w s.0 k (next c.answer.lasts cs (step_eight c.file c.office lasts c.before c.after c.answer s.0 w) s.1 k)

-- A sheet that is read, of this office and of another.
module _ (k : ℕ) (b : List ℕ) (bs : List (List ℕ)) (s : SheetParts) (e : read_sheet b ≡ some_sheet s) where
  -- Of this office: its number comes first.
  pub read_own : s.total.office ≡ k → numbers_of k (b ∷ bs) ≡ s.total.sheet ∷ numbers_of k bs
  read_own h = ap (λ (l : List ℕ). l ++ numbers_of k bs) (ap (number_read k) e ∙ one)
    where
      one : number_read k (some_sheet s) ≡ s.total.sheet ∷ []
      one = rw (eq-eqb s.total.office k h) refl

  -- Of another: nothing is added.
  pub read_other : (s.total.office ≡ k → ⊥) → numbers_of k (b ∷ bs) ≡ numbers_of k bs
  read_other h = ap (λ (l : List ℕ). l ++ numbers_of k bs) (ap (number_read k) e ∙ none)
    where
      none : number_read k (some_sheet s) ≡ []
      none = rw (ne_eqb s.total.office k h) refl

module _ (lasts : List ℕ) (c : Call) (cs : List Call) (w : Eight lasts) (s : SheetSays c.file c.office lasts c.before c.after c.answer) (k : ℕ)
    (rest : numbers_of k (drawn_sheets cs) ≡ up_from (next_of k c.answer.lasts) (drawn_count k cs)) where
  drawn_numbers : Drew c.office lasts c.answer → numbers_of k (drawn_sheets (c ∷ cs)) ≡ up_from (next_of k lasts) (drawn_count k (c ∷ cs))
  drawn_numbers d =
      let done : eqb c.answer.number 0 ≡ true = eq-eqb c.answer.number 0 d.done in
      let back : ReadsBack c.file c.office lasts c.after c.answer =
      drawn_kept c.file c.office lasts c.before c.after c.answer (w.fit c.office) s d.done in
      let parts : SheetParts = plant_parts c.office back.plant back.flow (next_of c.office lasts) in
      let listed : numbers_of k (drawn_sheets (c ∷ cs)) ≡ numbers_of k (take c.answer.written c.after ∷ drawn_sheets cs) = rw done refl in
      by_cases (eqb c.office k)
      (λ t. let e : k ≡ c.office = sym (eqb-true c.office k t) in
      let own : next_of k c.answer.lasts ≡ suc (next_of k lasts) = ap suc (rw e (own_raised c.office lasts c.answer d w.long)) in
      let number : next_of c.office lasts ≡ next_of k lasts = ap (λ (j : ℕ). next_of j lasts) (sym e) in
      listed ∙ read_own k (take c.answer.written c.after) (drawn_sheets cs) parts back.read (sym e)
      ∙ (λ i. number i ∷ (rest ∙ ap (λ (n : ℕ). up_from n (drawn_count k cs)) own) i)
      ∙ sym (ap (up_from (next_of k lasts)) (count_own (eqb c.answer.number 0) (eqb c.office k) (drawn_count k cs) done t)))
      (λ t. let n : c.office ≡ k → ⊥ = eqb-false c.office k t in
      let same : next_of k c.answer.lasts ≡ next_of k lasts = ap suc (other_same c.office lasts c.answer d k (λ e. n (sym e))) in
      listed ∙ read_other k (take c.answer.written c.after) (drawn_sheets cs) parts back.read n
      ∙ rest ∙ ap (λ (n : ℕ). up_from n (drawn_count k cs)) same
      ∙ sym (ap (up_from (next_of k lasts)) (count_other (eqb c.answer.number 0) (eqb c.office k) (drawn_count k cs) t)))

  idle_numbers : Idle lasts c.answer → numbers_of k (drawn_sheets (c ∷ cs)) ≡ up_from (next_of k lasts) (drawn_count k (c ∷ cs))
  idle_numbers d =
      let none : eqb c.answer.number 0 ≡ false = ne_eqb c.answer.number 0 d.not_done in
      let listed : numbers_of k (drawn_sheets (c ∷ cs)) ≡ numbers_of k (drawn_sheets cs) = rw none refl in
      listed ∙ rest ∙ ap (λ (ls : List ℕ). up_from (next_of k ls) (drawn_count k cs)) d.same
      ∙ sym (ap (up_from (next_of k lasts)) (count_idle (eqb c.answer.number 0) (eqb c.office k) (drawn_count k cs) none))

  numbers_more : numbers_of k (drawn_sheets (c ∷ cs)) ≡ up_from (next_of k lasts) (drawn_count k (c ∷ cs))
  numbers_more = ⊎_elim drawn_numbers idle_numbers (step c.file c.office lasts c.before c.after c.answer s)

-- The numbers of an office's sheets are consecutive.
pub numbers : (lasts : List ℕ) (cs : List Call) → Eight lasts → Calls lasts cs → (k : ℕ)
    → numbers_of k (drawn_sheets cs) ≡ up_from (next_of k lasts) (drawn_count k cs)
numbers lasts [] w s k = refl
numbers lasts (c ∷ cs) w s k =
    numbers_more lasts c cs w s.0 k (numbers c.answer.lasts cs (step_eight c.file c.office lasts c.before c.after c.answer s.0 w) s.1 k)
