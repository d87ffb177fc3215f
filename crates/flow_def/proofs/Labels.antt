-- After k steps two places have one label exactly when a chain of the first k streams that count joins them.
use mathlib.Core.Path.{◌≡◌, refl, sym, ◌∙◌, ap, subst}
use mathlib.Core.Bool.{Bool, true, false}
use mathlib.Core.List.{List, [], ◌∷◌, map}
use Prim.Native.Nat.{ℕ, zero, suc, ◌≤◌, ◌<◌, min, max}
use native.Mathlib.Nat.{min-eq_left, min-eq_right, max-eq_left, max-eq_right}
use native.Mathlib.Omega.{arith}
use native.Mathlib.Decide.{dec_le}
use borrow.Author.Tests.{eqb-true, eq-eqb, ne_eqb, ltb-true, ltb-false, lt-ltb}
use lib.Dec.{eqb, ltb}
use lib.ListN.{length, get_or, length-map}
use Rattle.num_bytes.proofs.Tests.{by_cases, clash, and_left, and_right, and_both, same_test, pick_same}
use Rattle.plant_def.specs.declared.Stream.{Stream}
use Rattle.plant_def.specs.Limits.{max_units, places}
use Rattle.plant_def.specs.Plants.{Plant}
use Rattle.flow_def.specs.Flows.{stream_at}
use Rattle.flow_def.specs.Classes.{has, joined_to}
use Rattle.flow_def.specs.Chains.{Counting, Chain}
use Rattle.flow_def.specs.Labels.{own_numbers, renamed, relabelled, united, stepped, labels_after, labels_of, one_label}
use Rattle.flow_def.specs.Groups.{first_only, AmongPlaces}
use Rattle.num_bytes.proofs.Lists.{map_at, values_long, values_at, Written, written_all}
use Rattle.flow_def.proofs.Reach.{Inside, chain_trans, chain_sym, chain_map, joined→chain, chain→joined}

-- What holds of two numbers in either order holds of the lower and the higher.
pub min_max : (P : ℕ → ℕ → Type 0) (a b : ℕ) → P a b → P b a → P (min a b) (max a b)
min_max P a b f g = elim (dec_le a b) [
  | yes h ↦ rw (min-eq_left h, max-eq_right h) f
  | no h ↦ let l : b ≤ a = omega arith in rw (min-eq_right l, max-eq_left l) g
]

-- Two labels become one, the lower.
renamed_both : (a b : ℕ) → renamed (min a b) (max a b) a ≡ renamed (min a b) (max a b) b
renamed_both a b = min_max (λ lo hi. renamed lo hi a ≡ renamed lo hi b) a b (meet a b) (sym (meet b a))
  where
    meet : (lo hi : ℕ) → renamed lo hi lo ≡ renamed lo hi hi
    meet lo hi = pick_same (eqb lo hi) lo ∙ rw (eq-eqb hi hi refl)

renamed_low : (lo hi x : ℕ) → lo ≤ hi → renamed lo hi x ≤ x
renamed_low lo hi x h = by_cases (eqb x hi) (λ t. rw t (omega (arith, eqb-true x hi t))) (λ t. rw t (omega arith))

-- The label that is taken away becomes the lower one.
pub renamed_hit : (lo hi x : ℕ) → x ≡ hi → lo ≡ renamed lo hi x
renamed_hit lo hi x e = rw (eq-eqb x hi e)

-- Any label but the one taken away stays.
pub renamed_miss : (lo hi x : ℕ) → (x ≡ hi → ⊥) → renamed lo hi x ≡ x
renamed_miss lo hi x e = rw (ne_eqb x hi e)

-- A loop that renames every place's label leaves the relabelled list.
pub renamed_all : (lo hi : ℕ) (before now : List ℕ) → length before ≡ places → Written 0 places (λ k x. renamed lo hi x) before now places
    → now ≡ relabelled lo hi before
renamed_all lo hi before now h w =
    written_all w (relabelled lo hi before) (length-map before (renamed lo hi) ∙ h) (λ k l. map_at (renamed lo hi) before k 0 0 (rw h l))

-- Two labels that are one already.
renamed_self : (x y : ℕ) → renamed x x y ≡ y
renamed_self x y = by_cases (eqb y x) (λ t. rw t (sym (eqb-true y x t))) (λ t. rw t)

relabelled_self : (x : ℕ) (ls : List ℕ) → relabelled x x ls ≡ ls
relabelled_self x [] = refl
relabelled_self x (y ∷ ls) = rw (renamed_self x y, relabelled_self x ls)

united_one : (a b : ℕ) (ls : List ℕ) → a ≡ b → united a b ls ≡ ls
united_one a b ls e = min_max (λ lo hi. relabelled lo hi ls ≡ ls) a b (rw e (relabelled_self b ls)) (rw e (relabelled_self b ls))

-- A stream whose ends have one label already changes nothing,
pub stepped_one : (c : Bool) (s : Stream) (ls : List ℕ) → c ≡ true → get_or ls s.from 0 ≡ get_or ls s.to 0 → ls ≡ stepped c s ls
stepped_one c s ls t e = rw t (sym (united_one (get_or ls s.from 0) (get_or ls s.to 0) ls e))

-- nor does one that does not count.
pub stepped_none : (c : Bool) (s : Stream) (ls : List ℕ) → c ≡ false → ls ≡ stepped c s ls
stepped_none c s ls t = rw t

-- A stream that counts, with the lower label at its start: the label of its end is taken away.
pub stepped_up : (c : Bool) (s : Stream) (ls : List ℕ) → c ≡ true → get_or ls s.from 0 ≤ get_or ls s.to 0
    → relabelled (get_or ls s.from 0) (get_or ls s.to 0) ls ≡ stepped c s ls
stepped_up c s ls t le = rw (t, min-eq_left le, max-eq_right le)

-- A stream that counts, with the lower label at its end: the label of its start is taken away.
pub stepped_down : (c : Bool) (s : Stream) (ls : List ℕ) → c ≡ true → get_or ls s.to 0 ≤ get_or ls s.from 0
    → relabelled (get_or ls s.to 0) (get_or ls s.from 0) ls ≡ stepped c s ls
stepped_down c s ls t le = rw (t, min-eq_right le, max-eq_left le)

-- A step keeps the number of labels.
pub stepped_long : (c : Bool) (s : Stream) (ls : List ℕ) → length (stepped c s ls) ≡ length ls
stepped_long true s ls = length-map ls _
stepped_long false s ls = refl

-- There is one label for each place.
pub labels_long : (counts : Counting) (ss : List Stream) (k : ℕ) → length (labels_after counts ss k) ≡ places
unfolding labels_after
labels_long counts ss zero = values_long (λ u. u) places
labels_long counts ss (suc k) = stepped_long (counts k (stream_at ss k)) (stream_at ss k) (labels_after counts ss k) ∙ labels_long counts ss k

-- Where the same streams count, so far, the labels are the same.
pub labels_same : (f g : Counting) (ss : List Stream) (k : ℕ) → ((j : ℕ) → j < k → f j (stream_at ss j) ≡ g j (stream_at ss j))
    → labels_after f ss k ≡ labels_after g ss k
unfolding labels_after
labels_same f g ss zero e = refl
labels_same f g ss (suc k) e = rw (e k (omega arith), labels_same f g ss k (λ j l. e j (omega arith)))

-- Before the first step.
pub step_none : (counts : Counting) (ss : List Stream) (ls : List ℕ) → ls ≡ own_numbers → ls ≡ labels_after counts ss 0
unfolding labels_after
step_none counts ss ls e = e

-- What holds of the labels after k steps.
pub record Labelling (counts : Counting) (ss : List Stream) (k : ℕ) (ls : List ℕ) : Type 0 where
  pub long : length ls ≡ places
  pub level : (j : ℕ) → j < length ss → first_only k counts j (stream_at ss j) ≡ true → get_or ls (stream_at ss j).from 0 ≡ get_or ls (stream_at ss j).to 0
  pub chain : (u : ℕ) → u < places → Chain (first_only k counts) ss u (get_or ls u 0)
  pub low : (u : ℕ) → u < places → get_or ls u 0 ≤ u

module _ (counts : Counting) (ss : List Stream) where
  grown : (k : ℕ) {u v : ℕ} → Chain (first_only k counts) ss u v → Chain (first_only (suc k) counts) ss u v
  grown k = chain_map (λ j l e. and_both (ltb j (suc k)) _ (lt-ltb j (suc k) (omega (arith, ltb-true j k (and_left (ltb j k) _ e)))) (and_right (ltb j k) _ e))

  -- A stream that counts among the first k + 1 is among the first k, or is number k.
  first_or : {A : Type 0} (k j : ℕ) (s : Stream) → first_only (suc k) counts j s ≡ true
      → (first_only k counts j s ≡ true → A) → (j ≡ k → counts j s ≡ true → A) → A
  first_or k j s e f g =
      by_cases (ltb j k) (λ t. f (and_both (ltb j k) (counts j s) t (and_right (ltb j (suc k)) (counts j s) e)))
      (λ t. g (omega (arith, ltb-false j k t, ltb-true j (suc k) (and_left (ltb j (suc k)) (counts j s) e))) (and_right (ltb j (suc k)) (counts j s) e))

  -- Before the first stream every place has its own number.
  pub start : Labelling counts ss 0 own_numbers
  start = record {
    long = values_long (λ u. u) places;
    level = λ j l e. absurd (omega (arith, ltb-true j 0 (and_left (ltb j 0) _ e)));
    chain = λ u h. subst (Chain (first_only 0 counts) ss u) (sym (own u h)) Chain.stop;
    low = λ u h. omega (arith, own u h);
  }
    where
      own : (u : ℕ) → u < places → get_or own_numbers u 0 ≡ u
      own u h = values_at (λ u. u) 0 places u h

  -- A stream that does not count.
  passed : (k : ℕ) (ls : List ℕ) → Labelling counts ss k ls → counts k (stream_at ss k) ≡ false → Labelling counts ss (suc k) ls
  passed k ls g t = record {
    long = g.long;
    level = λ j l e. first_or k j (stream_at ss j) e (g.level j l) (λ q c. clash (counts k (stream_at ss k)) (rw q at c) t);
    chain = λ u h. grown k (g.chain u h);
    low = g.low;
  }

  module _ (w : AmongPlaces ss) where
    -- A stream that counts.
    joined : (k : ℕ) (ls : List ℕ) → k < length ss → Labelling counts ss k ls → counts k (stream_at ss k) ≡ true
        → Labelling counts ss (suc k) (united (get_or ls (stream_at ss k).from 0) (get_or ls (stream_at ss k).to 0) ls)
    joined k ls l g t = record {
      long = length-map ls (renamed lo hi) ∙ g.long;
      level = λ j m e. at (stream_at ss j).from (omega (arith, w j m)) ∙ both j m e ∙ sym (at (stream_at ss j).to (omega (arith, w j m)));
      chain = λ u h. subst (Chain more ss u) (sym (at u h)) (reach u h);
      low = λ u h. omega (arith, at u h, renamed_low lo hi (get_or ls u 0) (omega arith), g.low u h);
    }
      where
        s : Stream
        s = stream_at ss k

        a : ℕ
        a = get_or ls (stream_at ss k).from 0

        b : ℕ
        b = get_or ls (stream_at ss k).to 0

        lo : ℕ
        lo = min a b

        hi : ℕ
        hi = max a b

        more : Counting
        more = first_only (suc k) counts

        at : (u : ℕ) → u < places → get_or (map (renamed lo hi) ls) u 0 ≡ renamed lo hi (get_or ls u 0)
        at u h = map_at (renamed lo hi) ls u 0 0 (rw g.long h)

        both : (j : ℕ) → j < length ss → first_only (suc k) counts j (stream_at ss j) ≡ true
            → renamed lo hi (get_or ls (stream_at ss j).from 0) ≡ renamed lo hi (get_or ls (stream_at ss j).to 0)
        both j m e =
            first_or k j (stream_at ss j) e (λ o. ap (renamed lo hi) (g.level j m o))
            (λ q c. rw q (renamed_both a b))

        link : Chain more ss a b
        link =
            let here : Chain more ss s.from s.to = Chain.along k l (and_both (ltb k (suc k)) _ (lt-ltb k (suc k) (omega arith)) t) Chain.stop in
            let start = grown k (g.chain s.from (omega (arith, w k l))) in
            let end = grown k (g.chain s.to (omega (arith, w k l))) in
            chain_trans (chain_sym start) (chain_trans here end)

        down : Chain more ss hi lo
        down = min_max (λ lo hi. Chain more ss hi lo) a b (chain_sym link) link

        reach : (u : ℕ) → u < places → Chain more ss u (renamed lo hi (get_or ls u 0))
        reach u h =
            by_cases (eqb (get_or ls u 0) hi)
            (λ e. rw e (chain_trans (subst (Chain more ss u) (eqb-true (get_or ls u 0) hi e) (grown k (g.chain u h))) down))
            (λ e. rw e (grown k (g.chain u h)))

    -- A step, whether the stream counts or not.
    pub step_on : (k : ℕ) (ls : List ℕ) → k < length ss → Labelling counts ss k ls
        → Labelling counts ss (suc k) (stepped (counts k (stream_at ss k)) (stream_at ss k) ls)
    step_on k ls l g =
        by_cases (counts k (stream_at ss k)) (λ t. rw t (joined k ls l g t)) (λ t. rw t (passed k ls g t))

    -- After k streams the labels are those of the groups by the first k.
    pub after : (k : ℕ) → k ≤ length ss → Labelling counts ss k (labels_after counts ss k)
    unfolding labels_after
    after zero h = start
    after (suc k) h = step_on k _ (omega arith) (after k (omega arith))

-- Labelled so, two places have one label exactly when a chain joins them.
module _ {counts : Counting} {ss : List Stream} {k : ℕ} {ls : List ℕ} (g : Labelling counts ss k ls) where
  -- Joined by a chain: one label.
  pub chain→one : {u v : ℕ} → Chain (first_only k counts) ss u v → get_or ls u 0 ≡ get_or ls v 0
  chain→one Chain.stop = refl
  chain→one (Chain.along j l e c) = chain→one c ∙ g.level j l e
  chain→one (Chain.back j l e c) = chain→one c ∙ sym (g.level j l e)

  -- One label: joined by a chain.
  pub one→chain : (u v : ℕ) → u < places → v < places → get_or ls u 0 ≡ get_or ls v 0 → Chain (first_only k counts) ss u v
  one→chain u v hu hv e = chain_trans (subst (Chain (first_only k counts) ss u) e (g.chain u hu)) (chain_sym (g.chain v hv))

-- All streams are the first of them.
module _ {counts : Counting} {ss : List Stream} {u v : ℕ} where
  -- A chain of the first so many is a chain of all,
  pub first→all : Chain (first_only (length ss) counts) ss u v → Chain counts ss u v
  first→all = chain_map (λ j l c. and_right (ltb j (length ss)) _ c)

  -- and the other way.
  pub all→first : Chain counts ss u v → Chain (first_only (length ss) counts) ss u v
  all→first = chain_map (λ j l c. and_both (ltb j (length ss)) _ (lt-ltb j (length ss) l) c)

-- The ends of streams inside a plant within limits are places.
pub among : (n : ℕ) (ss : List Stream) → n ≤ max_units → Inside n ss → AmongPlaces ss
among n ss small w j l = (omega (arith, w j l), omega (arith, w j l))

module _ (counts : Counting) (p : Plant) (small : p.units ≤ max_units) (w : Inside p.units p.streams) where
  abbrev all : ℕ
  all = length p.streams

  abbrev label : ℕ → ℕ
  label u = get_or (labels_of counts p) u 0

  -- The labels of a plant after k of its streams are those of the groups by the first k.
  pub labelling : (k : ℕ) → k ≤ length p.streams → Labelling counts p.streams k (labels_after counts p.streams k)
  labelling = after counts p.streams (among p.units p.streams small w)

  -- Places of one label are joined by a chain of the first k streams.
  pub label→chain : (k u v : ℕ) → k ≤ length p.streams → u < places → v < places
      → get_or (labels_after counts p.streams k) u 0 ≡ get_or (labels_after counts p.streams k) v 0 → Chain (first_only k counts) p.streams u v
  label→chain k u v h = one→chain (labelling k h) u v

  joined→label : (u v : ℕ) → has v (joined_to counts p u) ≡ true → label u ≡ label v
  joined→label u v e = chain→one (labelling all (omega arith)) (all→first (joined→chain counts p u v e))

  -- After all streams two places are joined by those that count exactly where they have one label.
  pub label_joined : (u v : ℕ) → u < places → v < places → has v (joined_to counts p u) ≡ one_label (labels_of counts p) u v
  label_joined u v hu hv =
      same_test (has v (joined_to counts p u)) (one_label (labels_of counts p) u v)
      (λ e. eq-eqb (label u) (label v) (joined→label u v e))
      (λ e. chain→joined counts p w (first→all (label→chain all u v (omega arith) hu hv (eqb-true (label u) (label v) e))))

  -- A place is joined to the place that its label names,
  pub label_member : (u : ℕ) → u < places → has (get_or (labels_of counts p) u 0) (joined_to counts p u) ≡ true
  label_member u h = chain→joined counts p w (first→all ((labelling all (omega arith)).chain u h))

  -- which is not above it,
  pub label_low : (u : ℕ) → u < places → get_or (labels_of counts p) u 0 ≤ u
  label_low = (labelling (length p.streams) (omega arith)).low

  -- and not above any place that it is joined to.
  pub label_lowest : (u v : ℕ) → u < places → has v (joined_to counts p u) ≡ true → get_or (labels_of counts p) u 0 ≤ v
  label_lowest u v h e =
      by_cases (ltb v places)
      (λ t. omega (arith, joined→label u v e, label_low v (ltb-true v places t)))
      (λ t. omega (arith, label_low u h, ltb-false v places t))

  -- Every place has a label.
  pub label_long : length (labels_of counts p) ≡ places
  label_long = (labelling (length p.streams) (omega arith)).long

  -- The ends of a stream that counts have one label.
  pub label_level : (k : ℕ) → k < length p.streams → counts k (stream_at p.streams k) ≡ true
      → get_or (labels_of counts p) (stream_at p.streams k).from 0 ≡ get_or (labels_of counts p) (stream_at p.streams k).to 0
  label_level k l e = (labelling (length p.streams) (omega arith)).level k l (and_both (ltb k (length p.streams)) _ (lt-ltb k (length p.streams) l) e)
