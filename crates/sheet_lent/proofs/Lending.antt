-- The last numbers in a slice, by how many there are.
use mathlib.Core.Path.{◌≡◌, sym, ap, ◌∙◌, subst}
use mathlib.Core.Bool.{Bool, true, false}
use mathlib.Core.List.{List}
use Prim.Native.Nat.{ℕ, ◌≤◌, ◌<◌}
use borrow.Author.Tests.{lt-ltb, le-ltb}
use lib.Dec.{ltb}
use lib.ListN.{length, take, drop}
use lib.Seq.{take_at, drop_at}
use Rattle.num_bytes.specs.Bytes.{over}
use Rattle.num_bytes.specs.Inner.{PickT}
use Rattle.sheet_def.specs.declared.Sheet.{Sheet}
use Rattle.sheet_def.specs.Counters.{offices}
use Rattle.sheet_def.specs.Sentences.{Refused}
use Rattle.sheet_def.specs.Says.{SheetSays}
use Rattle.sheet_lent.specs.Lent.{fronted, LentSays}

module _ (file : List ℕ) (office : ℕ) (ls o o' : List ℕ) (r : Sheet) where
  by_length : (b : Bool) → ltb (length ls) offices ≡ b
      → PickT b (Refused 1 ls o o' r) (SheetSays file office (take offices ls) o o' (fronted r) × (drop offices r.lasts ≡ drop offices ls))
      → LentSays file office ls o o' r
  by_length b e w =
      subst (λ (b : Bool). PickT b (Refused 1 ls o o' r) (SheetSays file office (take offices ls) o o' (fronted r) × (drop offices r.lasts ≡ drop offices ls))) (sym e) w

  -- Fewer than eight: 1.
  pub too_few : length ls < offices → Refused 1 ls o o' r → LentSays file office ls o o' r
  too_few h w = by_length true (lt-ltb (length ls) offices h) w

  -- The numbers that the call handed back, laid over the front.
  pub enough : offices ≤ length ls → (after : List ℕ) → length after ≡ offices → r.lasts ≡ over after ls
      → SheetSays file office (take offices ls) o o' (record { number = r.number; written = r.written; lasts = after; marked = r.marked })
      → LentSays file office ls o o' r
  enough h after l e s =
      let rest : List ℕ = drop (length after) ls in
      let front : after ≡ take offices r.lasts = sym (ap (take offices) e ∙ take_at after rest offices l) in
      let back : drop offices r.lasts ≡ drop offices ls = ap (drop offices) e ∙ drop_at after rest offices l ∙ ap (λ (n : ℕ). drop n ls) l in
      by_length false (le-ltb (length ls) offices h)
      (subst (λ (ns : List ℕ). SheetSays file office (take offices ls) o o' (record { number = r.number; written = r.written; lasts = ns; marked = r.marked })) front s, back)
