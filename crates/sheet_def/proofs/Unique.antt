-- No choice is left: two cheapest flows of one plant give one and the same balance, and so one sheet; and a plant that has one has no
-- overfull set.
use mathlib.Core.Path.{◌≡◌, refl, sym, ap, ◌∙◌}
use mathlib.Core.Bool.{Bool, true, false}
use mathlib.Core.Logic.{inl, inr}
use mathlib.Core.List.{List, [], ◌∷◌, ◌++◌}
use lib.IntN.{ℤ}
use Prim.Native.Nat.{ℕ, zero, suc, ◌<◌}
use native.Mathlib.Omega.{arith}
use borrow.Author.Tests.{ltb-true, ltb-false}
use lib.Dec.{eqb, ltb}
use lib.ListN.{length}
use Rattle.num_bytes.specs.Choice.{pick}
use Rattle.num_bytes.specs.Bytes.{over}
use Rattle.num_bytes.specs.Inner.{PickT}
use Rattle.num_bytes.proofs.Tests.{by_cases, clash}
use Rattle.plant_def.specs.declared.Stream.{Stream}
use Rattle.plant_def.specs.Limits.{max_streams}
use Rattle.plant_def.specs.Plants.{Plant}
use Rattle.plant_def.specs.Files.{Got, bad, got, read_plant}
use Rattle.plant_def.specs.Within.{Within}
use Rattle.plant_def.proofs.Limited.{within}
use Rattle.plant_def.proofs.Accepted.{accepted}
use Rattle.flow_def.specs.declared.Class.{Class}
use Rattle.flow_def.specs.declared.Class.TheVariants.{Adjusted, AsRead, Given, Withheld}
use Rattle.flow_def.specs.Flows.{stream_at, amount_at, balanced, allowed, cost, metered_of, Cheapest}
use Rattle.flow_def.specs.Classes.{class_of, number_of, degrees}
use Rattle.flow_def.specs.Test.{verdict_at}
use Rattle.flow_def.specs.Shown.{adjusted}
use Rattle.flow_def.specs.Overfull.{unmarked, Overfull}
use Rattle.flow_def.proofs.Nets.{balanced_size}
use Rattle.flow_def.proofs.Ranges.{balanced_of}
use Rattle.flow_def.proofs.Overfull.{overfull_none}
use Rattle.num_bytes.proofs.Lists.{values_same}
use Rattle.flow_def.proofs.Order.{one}
use Rattle.flow_def.proofs.ByLabels.{class_past}
use Rattle.flow_def.proofs.Given.{class_means, number_is, given_agree}
use Rattle.sheet_def.specs.declared.Sheet.{Sheet}
use Rattle.sheet_def.specs.Totals.{capped}
use Rattle.sheet_def.specs.Counters.{next_of, raised}
use Rattle.sheet_def.specs.Balances.{entry_of, balance_of}
use Rattle.sheet_def.specs.Drawings.{sheet_bytes, sheet_of}
use Rattle.sheet_def.specs.Demands.{bare, Alike, NoChoice}
use Rattle.sheet_def.specs.Says.{Drawn, SheetWith}
use Rattle.sheet_def.specs.Sentences.{call_fault, Refused, Overfilled}
use Rattle.sheet_def.proofs.Entries.{entry_same}

-- Flows with the same metered amounts have the same amount on each metered stream.
metered_at : (ss : List Stream) (xs ys : List ℤ) → length xs ≡ length ss → length ys ≡ length ss → metered_of ss xs ≡ metered_of ss ys
    → (k : ℕ) → k < length ss → (stream_at ss k).metered ≡ true → amount_at xs k ≡ amount_at ys k
metered_at [] xs ys m n e k h t = absurd (omega arith)
metered_at (s ∷ ss) [] ys m n e k h t = absurd (omega arith)
metered_at (s ∷ ss) (x ∷ xs) [] m n e k h t = absurd (omega arith)
metered_at (s ∷ ss) (x ∷ xs) (y ∷ ys) m n e zero h t = let q : x ∷ metered_of ss xs ≡ y ∷ metered_of ss ys = rw t at e in cc
metered_at (s ∷ ss) (x ∷ xs) (y ∷ ys) m n e (suc k) h t = metered_at ss xs ys (omega arith) (omega arith) (rest s.metered e) k (omega arith) t
  where
    rest : (b : Bool) → pick b (x ∷ []) [] ++ metered_of ss xs ≡ pick b (y ∷ []) [] ++ metered_of ss ys → metered_of ss xs ≡ metered_of ss ys
    rest true q = cc
    rest false q = q

module _ (p : Plant) (w : Within p) (xs ys : List ℤ) (c : Cheapest p xs) (d : Cheapest p ys) where
  first : balanced p xs ≡ true
  first = balanced_of 1 p xs c.balance

  second : balanced p ys ≡ true
  second = balanced_of 1 p ys d.balance

  -- An amount that is shown is the same in both.
  pub amount_same : (k : ℕ) → k < length p.streams → (class_of p k ≡ Withheld → ⊥) → amount_at xs k ≡ amount_at ys k
  amount_same k h n = go (class_of p k) refl
    where
      metered : (stream_at p.streams k).metered ≡ true → amount_at xs k ≡ amount_at ys k
      metered t = metered_at p.streams xs ys (balanced_size p xs first) (balanced_size p ys second) (one p xs ys c d) k h t

      go : (a : Class) → class_of p k ≡ a → amount_at xs k ≡ amount_at ys k
      go Adjusted e = metered (class_means p k Adjusted e).0
      go AsRead e = metered (class_means p k AsRead e).0
      go Given e = given_agree p w k h e xs ys (record { first = first; second = second; metered = one p xs ys c d })
      go Withheld e = absurd (n e)

  -- An entry is the same in both.
  entries_same : (k : ℕ) → entry_of (class_of p k) (number_of p xs k) ≡ entry_of (class_of p k) (number_of p ys k)
  entries_same k = entry_same (class_of p k) (number_of p xs k) (number_of p ys k) (λ n. by_cases (ltb k (length p.streams)) (listed n) (past n))
    where
      listed : (class_of p k ≡ Withheld → ⊥) → ltb k (length p.streams) ≡ true → number_of p xs k ≡ number_of p ys k
      listed n t =
          let h = ltb-true k (length p.streams) t in
          number_is p w xs first k h n ∙ amount_same k h n ∙ sym (number_is p w ys second k h n)

      past : (class_of p k ≡ Withheld → ⊥) → ltb k (length p.streams) ≡ false → number_of p xs k ≡ number_of p ys k
      past n t = absurd (n (class_past p k (ltb-false k (length p.streams) t)))

  -- Two cheapest flows have one cost,
  pub cost_same : cost p.streams xs ≡ cost p.streams ys
  cost_same = let a = c.least ys d.balance in let b = d.least xs c.balance in omega arith

  -- one balance,
  pub one_balance : balance_of p xs ≡ balance_of p ys
  unfolding balance_of
  one_balance =
      let e = values_same max_streams (λ k. entry_of (class_of p k) (number_of p xs k)) (λ k. entry_of (class_of p k) (number_of p ys k)) (λ k l. entries_same k) in
      λ i. record { streams = e i; cost = capped (cost_same i); degrees = degrees p; verdict = verdict_at (degrees p) (cost_same i) (adjusted p) }

  -- and one sheet, whichever its number.
  pub one_sheet : (office n : ℕ) → sheet_of office p xs n ≡ sheet_of office p ys n
  one_sheet office n = ap (sheet_bytes office (length p.streams) n) one_balance

-- A plant with a flow in range has no overfull set.
pub never_both : {A : Type 0} (p : Plant) → Within p → (xs : List ℤ) → Cheapest p xs → (ms : List Bool) → Overfull p ms → A
never_both p w xs c ms m = clash (allowed p xs) c.balance (overfull_none p w ms m 1 xs (omega arith))

-- Equal answers are alike.
pub alike_same : (r₁ r₂ : Sheet) → r₁ ≡ r₂ → Alike r₁ r₂
alike_same r₁ r₂ e = (ap bare e, λ n. e)

module _ (office : ℕ) (lasts : List ℕ) (o o₁ o₂ : List ℕ) (r₁ r₂ : Sheet) where
  refused_same : (f : ℕ) → Refused f lasts o o₁ r₁ → Refused f lasts o o₂ r₂ → Alike r₁ r₂ × (o₁ ≡ o₂)
  refused_same f a b = (alike_same r₁ r₂ (a.0 ∙ sym b.0), a.1 ∙ sym b.1)

  drawn_same : (p : Plant) → Within p → Drawn p office lasts o o₁ r₁ → Drawn p office lasts o o₂ r₂ → Alike r₁ r₂ × (o₁ ≡ o₂)
  drawn_same p w a b =
      let e = one_sheet p w a.0 b.0 a.1 b.1 office (next_of office lasts) in (
        alike_same r₁ r₂ (a.2 ∙ (λ i. record { number = 0; written = length (e i); lasts = raised office lasts; marked = unmarked }) ∙ sym b.2),
        a.3 ∙ ap (λ (l : List ℕ). over l o) e ∙ sym b.3,
      )

  -- Two sets may be marked, but all else is the same.
  marked_same : (p : Plant) → Overfilled p lasts o o₁ r₁ → Overfilled p lasts o o₂ r₂ → Alike r₁ r₂ × (o₁ ≡ o₂)
  marked_same p a b = (
    (ap bare a.2.0 ∙ sym (ap bare b.2.0), λ n. absurd (n (ap (λ (r : Sheet). r.number) a.2.0))),
    a.2.1 ∙ sym b.2.1,
  )

  read_same : (g : Got) → ((p : Plant) → g ≡ got p → Within p) → SheetWith g office lasts o o₁ r₁ → SheetWith g office lasts o o₂ r₂ → Alike r₁ r₂ × (o₁ ≡ o₂)
  read_same (bad f) h a b = refused_same f a b
  read_same (got p) h (inl a) (inl b) = drawn_same p (h p refl) a b
  read_same (got p) h (inl a) (inr b) = never_both p (h p refl) a.0 a.1 b.0 b.1
  read_same (got p) h (inr a) (inl b) = never_both p (h p refl) b.0 b.1 a.0 a.1
  read_same (got p) h (inr a) (inr b) = marked_same p a b

-- A call with a fault is refused; one without is answered by the file.
call_same : (b : Bool) (file : List ℕ) (office : ℕ) (lasts : List ℕ) (o o₁ o₂ : List ℕ) (r₁ r₂ : Sheet)
    → PickT b (SheetWith (read_plant file) office lasts o o₁ r₁) (Refused (call_fault office lasts o) lasts o o₁ r₁)
    → PickT b (SheetWith (read_plant file) office lasts o o₂ r₂) (Refused (call_fault office lasts o) lasts o o₂ r₂) → Alike r₁ r₂ × (o₁ ≡ o₂)
call_same true file office lasts o o₁ o₂ r₁ r₂ a b = read_same office lasts o o₁ o₂ r₁ r₂ (read_plant file) (λ p e. within p (accepted file p e).0) a b
call_same false file office lasts o o₁ o₂ r₁ r₂ a b = refused_same office lasts o o₁ o₂ r₁ r₂ (call_fault office lasts o) a b

-- So no call has a choice, but that of the set that a 19 marks.
pub no_choice : NoChoice
no_choice file office lasts o o₁ o₂ r₁ r₂ a b = call_same (eqb (call_fault office lasts o) 0) file office lasts o o₁ o₂ r₁ r₂ a b
