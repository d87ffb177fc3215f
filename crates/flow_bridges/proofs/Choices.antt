-- What a stream takes away and meets, by one test: whether it is metered or its ends have one label.
use mathlib.Core.Path.{◌≡◌, refl, sym, subst, ◌∙◌}
use mathlib.Core.Bool.{Bool, true, false, not, ◌||◌, true≢false}
use mathlib.Core.List.{List}
use Prim.Native.Nat.{ℕ, max}
use lib.ListN.{get_or}
use borrow.Author.Tests.{eqb-true, not-true, not-false}
use Rattle.num_bytes.proofs.Tests.{by_cases}
use Rattle.plant_def.specs.declared.Stream.{Stream}
use Rattle.flow_def.specs.Groups.{StepSays}
use Rattle.flow_def.specs.Labels.{one_label}
use Rattle.flow_def.specs.Sides.{taken_by, way_between, looped_by}
use Rattle.flow_def.proofs.BySides.{taken_metered, taken_one, taken_joins, taken_some, looped_metered, looped_one, looped_joins}
use Rattle.flow_def.proofs.Labels.{stepped_none, stepped_one}
use Rattle.flow_def.proofs.Grouping.{step_says}

module _ (ls : List ℕ) (s : Stream) where
  -- Where the test holds no label is taken away;
  pub taken_none : (m b : Bool) → s.metered ≡ m → one_label ls s.from s.to ≡ b → m || b ≡ true → 0 ≡ taken_by ls s
  taken_none true b e f t = taken_metered ls s e
  taken_none false b e f t = taken_one ls s e (f ∙ t)

  -- where it fails the higher one is.
  pub taken_higher : (m b : Bool) → s.metered ≡ m → one_label ls s.from s.to ≡ b → m || b ≡ false
      → max (get_or ls s.from 0) (get_or ls s.to 0) ≡ taken_by ls s
  taken_higher true b e f t = absurd (true≢false t)
  taken_higher false b e f t = taken_joins ls s e (f ∙ t)

  -- A stream that takes no label away leaves the labels as they are;
  pub step_idle : 0 ≡ taken_by ls s → StepSays (not s.metered) s ls ls
  step_idle z =
      by_cases s.metered (λ m. step_says (not s.metered) s ls ls (stepped_none (not s.metered) s ls (rw m refl)))
      (λ m. by_cases (one_label ls s.from s.to)
      (λ o. step_says (not s.metered) s ls ls (stepped_one (not s.metered) s ls (rw m refl) (eqb-true (get_or ls s.from 0) (get_or ls s.to 0) o)))
      (λ o. absurd (taken_some ls s m o (sym z))))

  -- one that takes a label away is unmetered, and counts.
  pub step_joins : (next : List ℕ) → (taken_by ls s ≡ 0 → ⊥) → StepSays true s ls next → StepSays (not s.metered) s ls next
  step_joins next n says = by_cases s.metered (λ m. absurd (n (sym (taken_metered ls s m)))) (λ m. subst (λ (k : Bool). StepSays (not k) s ls next) (sym m) says)

module _ (ls sides : List ℕ) (s : Stream) where
  -- A stream that is metered or joins two groups meets no loop;
  pub looped_none : (m b : Bool) → s.metered ≡ m → not (one_label ls s.from s.to) ≡ b → m || b ≡ true → 0 ≡ looped_by ls sides s
  looped_none true b e f t = looped_metered ls sides s e
  looped_none false b e f t = looped_joins ls sides s e (not-true _ (f ∙ t))

  -- any other meets the streams on the way between its ends.
  pub looped_way : (m b : Bool) → s.metered ≡ m → not (one_label ls s.from s.to) ≡ b → m || b ≡ false → way_between sides s ≡ looped_by ls sides s
  looped_way true b e f t = absurd (true≢false t)
  looped_way false b e f t = looped_one ls sides s e (not-false _ (f ∙ t))
