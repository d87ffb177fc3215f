-- What is drawn of an outcome, by whether a flow was found.
use mathlib.Core.Path.{◌≡◌, sym, ap, ◌∙◌, subst}
use mathlib.Core.Bool.{Bool, true, false}
use mathlib.Core.List.{List}
use Prim.Native.Nat.{ℕ, suc, ◌+◌}
use native.Mathlib.Numerals.{add-one}
use lib.ListN.{length}
use Rattle.num_bytes.specs.Bytes.{over}
use Rattle.num_bytes.specs.Inner.{Put, PickT}
use Rattle.flow_def.specs.Overfull.{unmarked}
use Rattle.sheet_def.specs.declared.Sheet.{Sheet}
use Rattle.sheet_def.specs.declared.Outcome.{Outcome}
use Rattle.sheet_def.specs.Counters.{counter_of, next_of, raised}
use Rattle.sheet_def.specs.Drawings.{sheet_bytes}
use Rattle.sheet_def.specs.Sentences.{RefusedWith}
use Rattle.sheet_write.specs.Draws.{Filled, DrawnOf}

module _ (count office : ℕ) (lasts : List ℕ) (u : Outcome) (o o' : List ℕ) where
  by_found : (b : Bool) → u.found ≡ b → (r : Sheet) → PickT b (Filled count u.balance office lasts o o' r) (RefusedWith u.marked 19 lasts o o' r)
      → DrawnOf count u office lasts o o' r
  by_found b t r d = subst (λ (b : Bool). PickT b (Filled count u.balance office lasts o o' r) (RefusedWith u.marked 19 lasts o o' r)) (sym t) d

  -- No flow was found: 19, and the slice as it was.
  pub drawn_none : (r : Sheet) → u.found ≡ false → r ≡ record { number = 19; written = 0; lasts = lasts; marked = u.marked } → o' ≡ o
      → DrawnOf count u office lasts o o' r
  drawn_none r t e s = by_found false t r (e, s)

  -- Under the number v + 1, where v is the office's last.
  pub drawn_sheet : (m v : ℕ) (after : List ℕ) → u.found ≡ true → v ≡ counter_of office lasts → after ≡ raised office lasts
      → Put (sheet_bytes office count (v + 1) u.balance) o o' m → DrawnOf count u office lasts o o' (record { number = 0; written = m; lasts = after; marked = unmarked })
  drawn_sheet m v after t e f p =
      let next : v + 1 ≡ next_of office lasts = add-one v ∙ ap suc e in
      let size = p.size ∙ ap (λ (n : ℕ). length (sheet_bytes office count n u.balance)) next in
      by_found true t (record { number = 0; written = m; lasts = after; marked = unmarked })
      ((λ i. record { number = 0; written = size i; lasts = f i; marked = unmarked }), p.bytes ∙ ap (λ (n : ℕ). over (sheet_bytes office count n u.balance) o) next)
