-- The class of a stream by labels.
use mathlib.Core.Path.{◌≡◌, refl, sym, ◌∙◌}
use mathlib.Core.Bool.{Bool, true, false, not, ◌&&◌}
use mathlib.Core.List.{List}
use Prim.Native.Nat.{ℕ, ◌≤◌, ◌<◌}
use native.Mathlib.Omega.{arith}
use borrow.Author.Tests.{eqb-true, ne_eqb, ltb-true, ltb-false}
use lib.Dec.{ltb}
use lib.ListN.{length, get_or, replicate, get_or-eq_default, get_or-replicate}
use lib.Seq.{ext_get_or}
use Rattle.num_bytes.specs.Choice.{pick}
use Rattle.num_bytes.proofs.Tests.{by_cases, and_right}
use Rattle.plant_def.specs.declared.Stream.{Stream}
use Rattle.plant_def.specs.Limits.{max_units}
use Rattle.plant_def.specs.Plants.{Plant, no_stream}
use Rattle.flow_def.specs.declared.Class.{Class}
use Rattle.flow_def.specs.declared.Class.TheVariants.{Adjusted, AsRead, Withheld}
use Rattle.flow_def.specs.Flows.{stream_at}
use Rattle.num_bytes.specs.Inner.{values}
use Rattle.flow_def.specs.Classes.{unmetered_but, class_of}
use Rattle.flow_def.specs.Chains.{unmetered_only}
use Rattle.flow_def.specs.Labels.{labels_after, labels_of, one_label}
use Rattle.flow_def.proofs.Reach.{Inside, chain_map, chain→joined, joined_self}
use Rattle.flow_def.proofs.Labels.{label→chain, label_joined, labels_same}
use Rattle.num_bytes.proofs.Lists.{values_long, values_at, Written}

module _ (p : Plant) (small : p.units ≤ max_units) (w : Inside p.units p.streams) (i : ℕ) (l : i < length p.streams) where
  -- A metered stream, by whether its ends have one label.
  pub class_metered : (stream_at p.streams i).metered ≡ true
      → pick (one_label (labels_of unmetered_only p) (stream_at p.streams i).from (stream_at p.streams i).to) AsRead Adjusted ≡ class_of p i
  class_metered t =
      let s = stream_at p.streams i in
      rw (t, label_joined unmetered_only p small w s.from s.to (omega (arith, w i l)) (omega (arith, w i l))) refl

  -- An unmetered stream whose ends other ones among the first k join lies on a loop.
  pub class_joined : (k : ℕ) → k ≤ length p.streams → (stream_at p.streams i).metered ≡ false
      → one_label (labels_after (unmetered_but i) p.streams k) (stream_at p.streams i).from (stream_at p.streams i).to ≡ true → class_of p i ≡ Withheld
  class_joined k h t e =
      let c = label→chain (unmetered_but i) p small w k _ _ h (omega (arith, w i l)) (omega (arith, w i l)) (eqb-true _ _ e) in
      rw (t, chain→joined (unmetered_but i) p w (chain_map (λ j m q. and_right (ltb j k) _ q) c))

-- Past the last stream a record is empty.
pub class_past : (p : Plant) (i : ℕ) → length p.streams ≤ i → class_of p i ≡ Withheld
class_past p i h = rw (get_or-eq_default p.streams no_stream h, joined_self (unmetered_but i) p 0)

-- Of the other streams the unmetered ones count.
and_true : (b : Bool) → b ≡ b && true
and_true true = refl
and_true false = refl

other_counts : (i j : ℕ) (s : Stream) → (j ≡ i → ⊥) → unmetered_only j s ≡ unmetered_but i j s
other_counts i j s e = rw (ne_eqb j i e) (and_true (not s.metered))

-- The labels by the unmetered streams before stream i are those without it.
pub same_before : (ss : List Stream) (i : ℕ) → labels_after unmetered_only ss i ≡ labels_after (unmetered_but i) ss i
same_before ss i = labels_same unmetered_only (unmetered_but i) ss i (λ j l. other_counts i j (stream_at ss j) (λ e. omega arith))

-- All classes, from those of the first n streams, n being how many there are.
pub classes_all : (p : Plant) (n m : ℕ) (r : List Class) → length p.streams ≡ n
    → Written Withheld m (λ k x. class_of p k) (replicate m Withheld) r n → r ≡ values m (class_of p)
classes_all p n m r e w = ext_get_or Withheld r (values m (class_of p)) (w.long ∙ sym (values_long (class_of p) m)) each
  where
    each : (k : ℕ) → k < length r → get_or r k Withheld ≡ get_or (values m (class_of p)) k Withheld
    each k l =
        let h : k < m = rw w.long at l in
        by_cases (ltb k n) (λ t. w.done k (ltb-true k n t))
        (λ t. w.rest k (ltb-false k n t) ∙ get_or-replicate m k Withheld Withheld h ∙ sym (class_past p k (omega (arith, ltb-false k n t))))
        ∙ sym (values_at (class_of p) Withheld m k h)
