-- The classes of metered streams by chains; and a given stream's amount in a flow in fractions.
use mathlib.Core.Path.{◌≡◌, sym, ◌∙◌, ap}
use mathlib.Core.Logic.{◌↔◌}
use mathlib.Core.Bool.{Bool, true, false}
use mathlib.Core.List.{List}
use lib.IntN.{ℤ, pos, neg_ℤ, ◌+ℤ◌, ◌*ℤ◌, *ℤ-zero}
use Prim.Native.Nat.{ℕ, ◌<◌}
use native.Mathlib.Omega.{arith}
use lib.Dec.{eqb}
use lib.ListN.{length}
use Rattle.num_bytes.specs.Choice.{pick}
use Rattle.num_bytes.proofs.Tests.{by_cases, clash}
use Rattle.plant_def.specs.declared.Stream.{Stream}
use Rattle.plant_def.specs.Plants.{Plant}
use Rattle.plant_def.specs.Within.{Within}
use Rattle.flow_def.specs.declared.Class.TheVariants.{Adjusted, AsRead, Given}
use Rattle.flow_def.specs.Flows.{stream_at, amount_at, balanced}
use Rattle.flow_def.specs.Chains.{unmetered_only, Chain}
use Rattle.flow_def.specs.Classes.{one_group, class_of}
use Rattle.num_bytes.proofs.Integers.{canon, Z_diff}
use Rattle.num_bytes.proofs.Sums.{sum_same, sum_times}
use Rattle.flow_def.proofs.Reach.{joined→chain, chain→joined}
use Rattle.flow_def.proofs.Nets.{brought, inside, balanced_size, balanced_nets, listed, listed_size, listed_at, listed_balanced}
use Rattle.flow_def.proofs.Given.{class_means, given_agree}
use Rattle.flow_def.proofs.Withheld.{metered_same}

module _ (p : Plant) (w : Within p) (i : ℕ) (m : (stream_at p.streams i).metered ≡ true) where
  abbrev u : ℕ
  u = (stream_at p.streams i).from

  abbrev v : ℕ
  v = (stream_at p.streams i).to

  -- A metered stream is as read exactly when a chain of unmetered streams joins its ends.
  pub as_read_of : (class_of p i ≡ AsRead) ↔ Chain unmetered_only p.streams u v
  as_read_of = (λ e. joined→chain unmetered_only p u v (class_means p i AsRead e).1, λ c. rw (m, chain→joined unmetered_only p (inside p w) c))

  -- A metered stream is adjusted exactly when no chain of unmetered streams joins its ends.
  pub adjusted_of : (class_of p i ≡ Adjusted) ↔ (Chain unmetered_only p.streams u v → ⊥)
  adjusted_of = (
    λ e c. clash (one_group p u v) (chain→joined unmetered_only p (inside p w) c) (class_means p i Adjusted e).1,
    λ f. by_cases (one_group p u v) (λ t. absurd (f (joined→chain unmetered_only p u v t))) (λ t. rw (m, t)),
  )

-- What d times an amount brings a place is d times what the amount brings it.
brought_times : (u : ℕ) (s : Stream) (d x : ℤ) → brought u s (d *ℤ x) ≡ d *ℤ brought u s x
brought_times u s d x = go (eqb s.to u) (eqb s.from u)
  where
    go : (a b : Bool) → pick a (d *ℤ x) (pos 0) +ℤ pick b (neg_ℤ (d *ℤ x)) (pos 0) ≡ d *ℤ (pick a x (pos 0) +ℤ pick b (neg_ℤ x) (pos 0))
    go true true = rw (← canon d, ← canon x) (simp Z_diff (omega arith))
    go true false = rw (← canon d, ← canon x) (simp Z_diff (omega arith))
    go false true = rw (← canon d, ← canon x) (simp Z_diff (omega arith))
    go false false = sym (*ℤ-zero d)

-- A balanced flow times d is balanced.
pub times_balanced : (p : Plant) → Within p → (xs : List ℤ) → balanced p xs ≡ true → (d : ℤ) → balanced p (listed p (λ k. d *ℤ amount_at xs k)) ≡ true
times_balanced p w xs b d =
    listed_balanced p (λ k. d *ℤ amount_at xs k)
    (λ u l. sum_same (length p.streams) _ (λ k. d *ℤ brought u (stream_at p.streams k) (amount_at xs k))
    (λ k h. brought_times u (stream_at p.streams k) d (amount_at xs k))
    ∙ sym (sum_times (length p.streams) d (λ k. brought u (stream_at p.streams k) (amount_at xs k)))
    ∙ ap (λ (z : ℤ). d *ℤ z) (balanced_nets p w xs b u l)
    ∙ *ℤ-zero d)

-- A flow with d times the metered amounts of another has d times its amount on a given stream.
pub given_times : (p : Plant) → Within p → (i : ℕ) → i < length p.streams → class_of p i ≡ Given → (d : ℤ) (xs ys : List ℤ)
    → balanced p xs ≡ true → balanced p ys ≡ true
    → ((k : ℕ) → k < length p.streams → (stream_at p.streams k).metered ≡ true → amount_at ys k ≡ d *ℤ amount_at xs k)
    → amount_at ys i ≡ d *ℤ amount_at xs i
given_times p w i l e d xs ys b c f =
    let zs = listed p (λ k. d *ℤ amount_at xs k) in
    given_agree p w i l e ys zs (record {
      first = c;
      second = times_balanced p w xs b d;
      metered = metered_same p.streams ys zs (balanced_size p ys c) (listed_size p (λ k. d *ℤ amount_at xs k))
          (λ k h t. f k h t ∙ sym (listed_at p (λ k. d *ℤ amount_at xs k) k h));
    })
    ∙ listed_at p (λ k. d *ℤ amount_at xs k) i l
