-- Each stream that joins two groups takes one group away: so streams without loops are as few as any that join the same places.
use mathlib.Core.Path.{◌≡◌, refl, sym, ◌∙◌}
use mathlib.Core.Bool.{Bool, true, false, not, ◌&&◌}
use mathlib.Core.List.{List}
use Prim.Native.Nat.{ℕ, zero, suc, ◌+◌, ◌≤◌, ◌<◌}
use native.Mathlib.Nat.{min-eq_left, min-eq_right, max-eq_left, max-eq_right}
use native.Mathlib.Omega.{arith}
use native.Mathlib.Decide.{dec_le, ℕ_discrete}
use borrow.Author.Tests.{eqb-true, eqb-false, eq-eqb, ne_eqb, ltb-true, leb-true, leb-false, le-leb, lt-leb}
use lib.Dec.{eqb, ltb, leb}
use lib.ListN.{length, get_or}
use Rattle.num_bytes.proofs.Tests.{by_cases, and_left, and_right, and_both}
use Rattle.plant_def.specs.declared.Stream.{Stream}
use Rattle.plant_def.specs.Limits.{max_units, places}
use Rattle.plant_def.specs.Plants.{Plant}
use Rattle.flow_def.specs.Flows.{stream_at}
use Rattle.flow_def.specs.Chains.{Counting, Chain}
use Rattle.flow_def.specs.Labels.{renamed, relabelled, united, stepped, labels_after, labels_of, one_label, own_labels}
use Rattle.flow_def.specs.Groups.{first_only}
use Rattle.num_bytes.proofs.Lists.{map_at}
use Rattle.flow_def.proofs.Reach.{Inside, bit_mono, chain_map, joined→chain, chain→joined}
use Rattle.flow_def.proofs.Labels.{Labelling, labelling, label→chain, label_member, label_low, label_lowest, stepped_one}
use Rattle.num_bytes.specs.Sums.{count_to}
use Rattle.flow_def.specs.Loops.{but, joins, AllJoin}
use Rattle.num_bytes.proofs.Counts.{one, count_le, count_same, count_but}
use Rattle.flow_def.proofs.Chains.{Spans, chain_bind}

-- The label hi becomes lo: one place less bears its own number.
module _ (lo hi : ℕ) (ls : List ℕ) (long : length ls ≡ places) (less : lo < hi) (own_lo : get_or ls lo 0 ≡ lo) (own_hi : get_or ls hi 0 ≡ hi) where
  kept : (x : ℕ) → (x ≡ hi → ⊥) → eqb (renamed lo hi (get_or ls x 0)) x ≡ eqb (get_or ls x 0) x
  kept x ne =
      by_cases (eqb (get_or ls x 0) hi)
      (λ t. rw t (ne_eqb lo x (λ e. absurd (omega (arith, own_lo, at_lo e, eqb-true (get_or ls x 0) hi t))) ∙ sym (ne_eqb (get_or ls x 0) x (λ e. ne (sym e ∙ eqb-true (get_or ls x 0) hi t)))))
      (λ t. rw t)
    where
      at_lo : lo ≡ x → get_or ls x 0 ≡ get_or ls lo 0
      at_lo e = rw e

  own_drop : (n : ℕ) → n < places → own_labels (relabelled lo hi ls) n + one (leb hi n) ≡ own_labels ls n
  own_drop zero h = rw (lt-leb hi 0 (omega arith))
  own_drop (suc n) h = elim (ℕ_discrete (suc n) hi) [
    | yes e ↦ gone e (own_drop n (omega arith))
    | no e ↦ stays e (own_drop n (omega arith))
  ]
    where
      at : get_or (relabelled lo hi ls) (suc n) 0 ≡ renamed lo hi (get_or ls (suc n) 0)
      at = map_at (renamed lo hi) ls (suc n) 0 0 (rw long h)

      gone : suc n ≡ hi → own_labels (relabelled lo hi ls) n + one (leb hi n) ≡ own_labels ls n
          → own_labels (relabelled lo hi ls) (suc n) + one (leb hi (suc n)) ≡ own_labels ls (suc n)
      gone e r =
          let before : own_labels (relabelled lo hi ls) n + 0 ≡ own_labels ls n = rw (lt-leb hi n (omega arith)) at r in
          let mine : get_or ls (suc n) 0 ≡ suc n = rw (← e) at own_hi in
          let lost : get_or (relabelled lo hi ls) (suc n) 0 ≡ lo = at ∙ rw (eq-eqb (get_or ls (suc n) 0) hi (mine ∙ e)) in
          rw (le-leb hi (suc n) (omega arith), lost, ne_eqb lo (suc n) (λ q. absurd (omega arith)), eq-eqb (get_or ls (suc n) 0) (suc n) mine) (omega arith)

      stays : (suc n ≡ hi → ⊥) → own_labels (relabelled lo hi ls) n + one (leb hi n) ≡ own_labels ls n
          → own_labels (relabelled lo hi ls) (suc n) + one (leb hi (suc n)) ≡ own_labels ls (suc n)
      stays ne r = rw (at, kept (suc n) ne, same) (omega arith)
        where
          same : leb hi (suc n) ≡ leb hi n
          same =
              by_cases (leb hi n) (λ t. le-leb hi (suc n) (omega (arith, leb-true hi n t)) ∙ sym t)
              (λ t. lt-leb hi (suc n) (omega (arith, leb-false hi n t)) ∙ sym t)

-- Two labels become one. (m stands for the last place: at the numeral the count would be written out.)
united_drop : (m : ℕ) → m ≡ max_units → (a b : ℕ) (ls : List ℕ) → length ls ≡ places → a < places → b < places → (a ≡ b → ⊥)
    → get_or ls a 0 ≡ a → get_or ls b 0 ≡ b → suc (own_labels (united a b ls) m) ≡ own_labels ls m
united_drop m e a b ls long ha hb ne oa ob = elim (dec_le a b) [
  | yes h ↦ rw (min-eq_left h, max-eq_right h) (omega (arith, top b hb, own_drop a b ls long (omega arith) oa ob m (omega arith)))
  | no h ↦
      let l : b ≤ a = omega arith in
      rw (min-eq_right l, max-eq_left l) (omega (arith, top a ha, own_drop b a ls long (omega arith) ob oa m (omega arith)))
]
  where
    top : (x : ℕ) → x < places → one (leb x m) ≡ 1
    top x h = rw (le-leb x m (omega arith))

-- No stream that counts has its ends joined by the others.
abbrev pub Free : Counting → List Stream → Type 0
Free counts ss = (i : ℕ) → i < length ss → counts i (stream_at ss i) ≡ true → Chain (but i counts) ss (stream_at ss i).from (stream_at ss i).to → ⊥

module _ (p : Plant) (small : p.units ≤ max_units) (w : Inside p.units p.streams) (m : ℕ) (top : m ≡ max_units) where
  abbrev tally : Counting → ℕ
  tally counts = count_to (length p.streams) (λ k. counts k (stream_at p.streams k))

  -- The number of groups, places past the last unit counted too.
  abbrev groups : Counting → ℕ
  groups counts = own_labels (labels_of counts p) m

  module _ (counts : Counting) where
    -- The ends of stream k have one label when it is met.
    abbrev met : ℕ → Bool
    met k = one_label (labels_after counts p.streams k) (stream_at p.streams k).from (stream_at p.streams k).to

    own_label : (k u : ℕ) → k ≤ length p.streams → u < places
        → get_or (labels_after counts p.streams k) (get_or (labels_after counts p.streams k) u 0) 0 ≡ get_or (labels_after counts p.streams k) u 0
    own_label k u h hu = sym (level ((labelling counts p small w k h).chain u hu))
      where
        level : {a b : ℕ} → Chain (first_only k counts) p.streams a b
            → get_or (labels_after counts p.streams k) a 0 ≡ get_or (labels_after counts p.streams k) b 0
        level Chain.stop = refl
        level (Chain.along j l e c) = level c ∙ (labelling counts p small w k h).level j l e
        level (Chain.back j l e c) = level c ∙ sym ((labelling counts p small w k h).level j l e)

    -- Each stream that joins two groups takes one away.
    joined_groups : (k : ℕ) → k ≤ length p.streams → count_to k (joins counts p.streams) + own_labels (labels_after counts p.streams k) m ≡ places
    unfolding labels_after
    joined_groups zero h = rw top
    joined_groups (suc k) h =
        let before = joined_groups k (omega arith) in
        by_cases (counts k s) (λ c. by_cases (one_label ls s.from s.to) (λ o. level c o before) (λ o. apart c o before)) (λ c. idle c before)
      where
        s : Stream
        s = stream_at p.streams k

        ls : List ℕ
        ls = labels_after counts p.streams k

        Goal : Type 0
        Goal = count_to (suc k) (joins counts p.streams) + own_labels (stepped (counts k s) s ls) m ≡ places

        idle : counts k s ≡ false → count_to k (joins counts p.streams) + own_labels ls m ≡ places → Goal
        idle c r = rw c (omega arith)

        level : counts k s ≡ true → one_label ls s.from s.to ≡ true → count_to k (joins counts p.streams) + own_labels ls m ≡ places → Goal
        level c o r = rw (← stepped_one (counts k s) s ls c (eqb-true _ _ o), c, o) (omega arith)

        apart : counts k s ≡ true → one_label ls s.from s.to ≡ false → count_to k (joins counts p.streams) + own_labels ls m ≡ places → Goal
        apart c o r = rw (c, o) (omega (arith, r, drop))
          where
            g : Labelling counts p.streams k (labels_after counts p.streams k)
            g = labelling counts p small w k (omega arith)

            drop : suc (own_labels (united (get_or ls s.from 0) (get_or ls s.to 0) ls) m) ≡ own_labels ls m
            drop =
                united_drop m top (get_or ls s.from 0) (get_or ls s.to 0) ls g.long
                (omega (arith, w k h, g.low s.from (omega (arith, w k h)))) (omega (arith, w k h, g.low s.to (omega (arith, w k h))))
                (eqb-false _ _ o) (own_label k s.from (omega arith) (omega (arith, w k h))) (own_label k s.to (omega arith) (omega (arith, w k h)))

    -- So streams that count and groups are together at least as many as places.
    groups_left : places ≤ tally counts + groups counts
    groups_left =
        let n = length p.streams in
        omega (arith, joined_groups n (omega arith), count_le n (joins counts p.streams) (λ k. counts k (stream_at p.streams k)) (λ k l. less (counts k (stream_at p.streams k)) (met k)))
      where
        less : (a b : Bool) → one (a && not b) ≤ one a
        less true true = omega arith
        less true false = omega arith
        less false b = omega arith

    -- Where each stream that counts joins two groups when it is met, they are as many.
    all_join_groups : AllJoin counts p.streams → tally counts + groups counts ≡ places
    all_join_groups a =
        let n = length p.streams in
        let each = count_same n (joins counts p.streams) (λ k. counts k (stream_at p.streams k)) (λ k l. whole (counts k (stream_at p.streams k)) (met k) (a k l)) in
        omega (arith, joined_groups n (omega arith), each)
      where
        whole : (c o : Bool) → (c ≡ true → o ≡ false) → c && not o ≡ c
        whole true o f = rw (f refl)
        whole false o f = refl

    -- Streams without a loop join two groups each.
    pub free_joins : Free counts p.streams → AllJoin counts p.streams
    free_joins f k l c =
        by_cases (one_label (labels_after counts p.streams k) (stream_at p.streams k).from (stream_at p.streams k).to)
        (λ o. absurd (f k l c (chain_map earlier (label→chain counts p small w k _ _ (omega arith) (omega (arith, w k l)) (omega (arith, w k l)) (eqb-true _ _ o)))))
        (λ o. o)
      where
        earlier : (j : ℕ) → j < length p.streams → first_only k counts j (stream_at p.streams j) ≡ true → but k counts j (stream_at p.streams j) ≡ true
        earlier j b t =
            and_both (counts j _) (not (eqb j k)) (and_right (ltb j k) _ t)
            (rw (ne_eqb j k (λ e. absurd (omega (arith, ltb-true j k (and_left (ltb j k) _ t))))))

  -- Streams that join the ends of all others leave no more groups.
  spans_groups : (f g : Counting) → Spans f g p.streams → groups g ≤ groups f
  spans_groups f g h = each m (omega arith)
    where
      own : (u : ℕ) → u < places → get_or (labels_of g p) u 0 ≡ u → get_or (labels_of f p) u 0 ≡ u
      own u l e =
          let v = get_or (labels_of f p) u 0 in
          let c = chain→joined g p w (chain_bind h (joined→chain f p u v (label_member f p small w u l))) in
          omega (arith, label_low f p small w u l, label_lowest g p small w u v l c)

      each : (n : ℕ) → n < places → own_labels (labels_of g p) n ≤ own_labels (labels_of f p) n
      each zero l = omega arith
      each (suc n) l =
          omega (
            arith,
            each n (omega arith),
            bit_mono (eqb (get_or (labels_of g p) (suc n) 0) (suc n)) (eqb (get_or (labels_of f p) (suc n) 0) (suc n)) (λ e. eq-eqb _ _ (own (suc n) l (eqb-true _ _ e))),
          )

  -- Streams without a loop are no more than any that join their ends.
  pub free_few : (f g : Counting) → Free f p.streams → Spans f g p.streams → tally f ≤ tally g
  free_few f g free h = omega (arith, all_join_groups f (free_joins f free), groups_left g, spans_groups f g h)

  -- Where each stream that counts joins two groups when it is met, there is no loop.
  pub joins_free : (f : Counting) → AllJoin f p.streams → Free f p.streams
  joins_free f a i l t c =
      omega (arith, all_join_groups f a, groups_left (but i f), spans_groups f (but i f) around, count_but (length p.streams) i (λ k. f k (stream_at p.streams k)) l t)
    where
      around : Spans f (but i f) p.streams
      around k b e = elim (ℕ_discrete k i) [
        | yes q ↦ rw q c
        | no q ↦ Chain.along k b (and_both (f k _) (not (eqb k i)) e (rw (ne_eqb k i q))) Chain.stop
      ]
